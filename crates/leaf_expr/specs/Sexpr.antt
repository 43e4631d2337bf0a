-- What tokens group to: a word, or parentheses round a word and further parts.
use Rattle.std.specs.Prelude.{ℕ, suc, ◌+◌, max, Bool, true, false, ◌&&◌, List, [], ◌∷◌, ◌++◌, length}
use Rattle.leaf_expr.specs.Token.{opening, closing, word, PlacedToken, is_word_byte}

mutual
  -- a word, or a form: parentheses round a word and further parts
  pub data Sexpr : Type 0 where
    atom : List ℕ → Sexpr
    form : List ℕ → Sexprs → Sexpr

  -- the parts behind the word of a form, in order
  pub data Sexprs : Type 0 where
    last : Sexprs
    more : Sexpr → Sexprs → Sexprs

-- the tokens ts are those of the part, up to byte n, and then rest
mutual
  pub data Spells : Sexpr → List PlacedToken → ℕ → List PlacedToken → Type 0 where
    atom_spells : {n : ℕ} {w : List ℕ} {ts : List PlacedToken}
        → Spells (atom w) ((n, word w) ∷ ts) (n + length w) ts
    form_spells : {n m k : ℕ} {w : List ℕ} {ps : Sexprs} {ts rest : List PlacedToken}
        → SpellAll ps ts ((k, closing) ∷ rest)
        → Spells (form w ps) ((n, opening) ∷ (m, word w) ∷ ts) (suc k) rest

  -- the tokens ts are those of the parts and then rest
  pub data SpellAll : Sexprs → List PlacedToken → List PlacedToken → Type 0 where
    last_spells : {ts : List PlacedToken} → SpellAll last ts ts
    more_spells : {n : ℕ} {p : Sexpr} {ps : Sexprs} {ts mid rest : List PlacedToken}
        → Spells p ts n mid → SpellAll ps mid rest → SpellAll (more p ps) ts rest

-- how many parentheses are open at once
abbrev mutual
  pub depth : Sexpr → ℕ
  depth (atom w) = 0
  depth (form w ps) = suc (depths ps)

  -- the same of the parts of a form: the greatest
  pub depths : Sexprs → ℕ
  depths last = 0
  depths (more p ps) = max (depth p) (depths ps)

-- the bytes of a part: one space between tokens, none inside a parenthesis' edges
abbrev mutual
  pub sexpr_spelling : Sexpr → List ℕ
  sexpr_spelling (atom w) = w
  sexpr_spelling (form w ps) = 40 ∷ w ++ (sexprs_spelling ps ++ 41 ∷ [])

  -- each part behind a space
  pub sexprs_spelling : Sexprs → List ℕ
  sexprs_spelling last = []
  sexprs_spelling (more p ps) = 32 ∷ sexpr_spelling p ++ sexprs_spelling ps

-- whether all of the bytes may stand in a word
abbrev pub all_word_bytes : List ℕ → Bool
all_word_bytes [] = true
all_word_bytes (b ∷ bs) = is_word_byte b && all_word_bytes bs

-- whether the bytes are a word: at least one, and all of them may stand in it
abbrev pub is_word : List ℕ → Bool
is_word [] = false
is_word (b ∷ bs) = is_word_byte b && all_word_bytes bs

-- whether each word of the part is a word of texts
abbrev mutual
  pub plain_sexpr : Sexpr → Bool
  plain_sexpr (atom w) = is_word w
  plain_sexpr (form w ps) = is_word w && all_plain ps

  -- the same of the parts of a form
  pub all_plain : Sexprs → Bool
  all_plain last = true
  all_plain (more p ps) = plain_sexpr p && all_plain ps
