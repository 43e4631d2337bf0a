-- Reading a tree off the front of the tokens, or the first fault.
use Rattle.std.specs.Prelude.{ℕ, zero, suc, ◌+◌, List, [], ◌∷◌, length, Option, Some, None, Result, Ok, Err, if◌then◌else◌}
use Rattle.leaf_expr.specs.WordReading.{WordReading, reads, misspelt, unfit}
use Rattle.leaf_expr.specs.Token.{opening, closing, word, PlacedToken}
use Rattle.leaf_expr.specs.Language.{Language, Places, Maker, Production, no_place, place, places}
use Rattle.sample_core.specs.Answer.{◌>>=◌}
use Rattle.leaf_expr.specs.declared.text_fault.ExprTextFault.{ExprTextFault}
use Rattle.leaf_expr.specs.declared.text_fault.ExprTextFault.TheVariants.{Syntax, Number, TooDeep}

-- what was read, the byte behind it, and the tokens left
abbrev pub Read : Type 0 → Type 0
Read T = Result (T × ℕ × List PlacedToken) ExprTextFault

-- a token that fits nowhere here, with room for so many more parentheses
abbrev pub unfit_token : ℕ → PlacedToken → ExprTextFault
unfit_token zero (n, opening) = TooDeep n
unfit_token _ x = Syntax x.0

-- the word w at n, as it was found: its tree, the byte behind it and the tokens left, or why it is
-- none
abbrev pub word_read : {T : Type 0} → ℕ → List ℕ → List PlacedToken → WordReading T → Read T
word_read n w ts (reads x) = Ok (x, n + length w, ts)
word_read n w ts misspelt = Err (Number n)
word_read n w ts unfit = Err (Syntax n)

-- in a language, and a text of so many bytes
module _ (L : Language) (size : ℕ) where
  -- the end of a form
  abbrev pub read_end : ℕ → List PlacedToken → Result (ℕ × List PlacedToken) ExprTextFault
  read_end room [] = Err (Syntax size)
  read_end room ((n, closing) ∷ ts) = Ok (suc n, ts)
  read_end room (y ∷ ts) = Err (unfit_token room y)

  -- the end of a form whose tree is x
  abbrev pub close : {T : Type 0} → ℕ → T → List PlacedToken → Read T
  close room x ts = read_end room ts >>= (λ y. Ok (x, y.0, y.1))

  -- the word of a form, and its place
  abbrev pub read_head : ℕ → List PlacedToken → Result (ℕ × List ℕ × List PlacedToken) ExprTextFault
  read_head room [] = Err (Syntax size)
  read_head room ((n, word w) ∷ ts) = Ok (n, w, ts)
  read_head room (x ∷ ts) = Err (unfit_token room x)

  -- parts up to the end of the form, each by the reader given; it has no more of them than the
  -- count
  abbrev pub read_all : {T R : Type 0} → (List PlacedToken → Read T) → ℕ → (List T → R)
      → List PlacedToken → Read R
  read_all reader zero make ts = Err (Syntax size)
  read_all reader (suc n) make [] = Err (Syntax size)
  read_all reader (suc n) make ((m, closing) ∷ ts) = Ok (make [], suc m, ts)
  read_all reader (suc n) make ts =
      reader ts >>= (λ x. read_all reader n (λ xs. make (x.0 ∷ xs)) x.2)

  -- the parts that a form takes, each by the reader given, and its end
  abbrev pub read_parts : {R : Type 0} → ((s : L.Sort) → List PlacedToken → Read (L.Tree s)) → ℕ
      → (qs : Places L.Sort) → Maker L.Tree qs R → List PlacedToken → Read R
  read_parts reader room no_place x ts = close room x ts
  read_parts reader room (place s qs) make ts =
      reader s ts >>= (λ x. read_parts reader room qs (make x.0) x.2)
  read_parts reader room (places s) make ts = read_all (reader s) (length ts) make ts

  -- what is read behind the word at n of a form
  abbrev pub read_production : {R : Type 0} → ((q : L.Sort) → List PlacedToken → Read (L.Tree q)) → ℕ
      → ℕ → Option (Production L.Sort L.Tree R) → List PlacedToken → Read R
  read_production reader room n None ts = Err (Syntax n)
  read_production reader room n (Some r) ts = read_parts reader room r.takes r.makes ts

  -- what is read behind the parenthesis of a form
  abbrev pub read_form : ((q : L.Sort) → List PlacedToken → Read (L.Tree q)) → ℕ → (s : L.Sort)
      → List PlacedToken → Read (L.Tree s)
  read_form reader room s ts =
      read_head room ts >>= (λ h. read_production reader room h.0 (L.production_at s h.1) h.2)

  -- a tree of the sort, with room for so many more parentheses
  abbrev pub read : ℕ → (s : L.Sort) → List PlacedToken → Read (L.Tree s)
  read room s [] = Err (Syntax size)
  read room s ((n, word w) ∷ ts) = word_read n w ts (L.word_at s w)
  read room s ((n, closing) ∷ ts) = Err (Syntax n)
  read zero s ((n, opening) ∷ ts) = Err (TooDeep n)
  read (suc room) s ((n, opening) ∷ ts) = if L.has_form s then read_form (read room) room s ts
      else Err (Syntax n)
