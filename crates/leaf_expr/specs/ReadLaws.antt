-- What reading a tree off the front of the tokens answers, said by the grammar alone.
use Rattle.std.specs.Prelude.{◌≡◌, ◌↔◌, ℕ, zero, suc, ◌+◌, true, ◌&&◌, if◌then◌else◌, List, [], ◌∷◌, ◌++◌, Option, Some, None, Ok, Err, ⊤}
use Rattle.sample_core.specs.Number.{is_number_word}
use Rattle.leaf_expr.specs.Token.{opening, closing, word, PlacedToken}
use Rattle.leaf_expr.specs.Sexpr.{Sexpr, Spells}
use Rattle.leaf_expr.specs.Language.{Language, Places, Production, no_place, place, places, Begins, meant}
use Rattle.leaf_expr.specs.TreeReader.{read}
use Rattle.leaf_expr.specs.declared.text_fault.ExprTextFault.{ExprTextFault}
use Rattle.leaf_expr.specs.declared.text_fault.ExprTextFault.TheVariants.{Syntax, Number, TooDeep}

-- at no place of the tokens are more than so many further parentheses open
abbrev pub OpensAtMost : ℕ → List PlacedToken → Type 0
OpensAtMost room [] = ⊤
OpensAtMost room ((n, word w) ∷ ts) = OpensAtMost room ts
OpensAtMost room ((n, closing) ∷ ts) = OpensAtMost (suc room) ts
OpensAtMost zero ((n, opening) ∷ ts) = ⊥
OpensAtMost (suc room) ((n, opening) ∷ ts) = OpensAtMost room ts

module _ (L : Language) where
  -- Some tokens behind us make it a tree, whatever follows; it may open more parentheses than there
  -- may be.
  pub record Completes (s : L.Sort) (us : List PlacedToken) : Type 0 where
    pub end : List PlacedToken
    pub stop : ℕ
    pub part : Sexpr
    pub tree : L.Tree s
    pub spells : (ts : List PlacedToken) → Spells part (us ++ (end ++ ts)) stop ts
    pub means : meant L s part ≡ Some tree

  -- a viable prefix of a tree: tokens that never have more than so many parentheses open, and that
  -- some tokens behind them, which may open more, make a tree
  pub record ViablePrefix (room : ℕ) (s : L.Sort) (us : List PlacedToken) : Type 0 where
    pub opens : OpensAtMost room us
    pub completes : Completes s us

  -- the tokens front are a tree of the sort, whatever follows
  pub record Whole (q : L.Sort) (t : L.Tree q) (front : List PlacedToken) : Type 0 where
    pub part : Sexpr
    pub stop : ℕ
    pub spells : (us : List PlacedToken) → Spells part (front ++ us) stop us
    pub means : meant L q part ≡ Some t

  -- Of a tree of sort s the tokens us stand, so many parentheses are open, and next is the place of
  -- a tree
  -- of the sort given, or, with none, of a form's word or end.
  mutual
    pub data TokensLead : L.Sort → List PlacedToken → Option L.Sort → ℕ → Type 0 where
      at_tree : {s : L.Sort} → TokensLead s [] (Some s) 0
      at_word : {s : L.Sort} {n : ℕ} → L.has_form s ≡ true → TokensLead s ((n, opening) ∷ []) None 1
      in_form : {s : L.Sort} {n m : ℕ} {w : List ℕ} {r : Production L.Sort L.Tree (L.Tree s)}
          {us : List PlacedToken} {q : Option L.Sort} {d : ℕ} → L.has_form s ≡ true
          → L.production_at s w ≡ Some r → TokensLeadIn r.takes us q d
          → TokensLead s ((n, opening) ∷ (m, word w) ∷ us) q (suc d)

    -- the same of the parts of a form
    pub data TokensLeadIn : Places L.Sort → List PlacedToken → Option L.Sort → ℕ → Type 0 where
      at_end : TokensLeadIn no_place [] None 0
      in_part : {p : L.Sort} {qs : Places L.Sort} {us : List PlacedToken} {q : Option L.Sort}
          {d : ℕ} → TokensLead p us q d → TokensLeadIn (place p qs) us q d
      behind : {p : L.Sort} {qs : Places L.Sort} {t : L.Tree p} {front us : List PlacedToken}
          {q : Option L.Sort} {d : ℕ} → Whole p t front → TokensLeadIn qs us q d
          → TokensLeadIn (place p qs) (front ++ us) q d
      in_item : {p : L.Sort} {us : List PlacedToken} {q : Option L.Sort} {d : ℕ} → TokensLead p us q d
          → TokensLeadIn (places p) us q d
      behind_item : {p : L.Sort} {t : L.Tree p} {front us : List PlacedToken} {q : Option L.Sort}
          {d : ℕ} → Whole p t front → TokensLeadIn (places p) us q d
          → TokensLeadIn (places p) (front ++ us) q d

  -- What a token that doesn't fit is called, where so many more parentheses may be opened: a
  -- parenthesis too
  -- many, a number word where a number may stand, or a token that is none of these.
  abbrev pub fault_at : ℕ → PlacedToken → Option L.Sort → ExprTextFault
  fault_at zero (n, opening) q = TooDeep n
  fault_at left (n, word w) (Some q) = if L.takes_number q && is_number_word w then Number n
      else Syntax n
  fault_at left x q = Syntax x.0

  -- The token x behind before is the fault e: by the place that is next, and the parentheses open
  -- there.
  pub record Misfit (room : ℕ) (s : L.Sort) (before : List PlacedToken) (x : PlacedToken)
      (e : ExprTextFault) : Type 0 where
    pub next : Option L.Sort
    pub opened : ℕ
    pub left : ℕ
    pub counts : opened + left ≡ room
    pub leads : TokensLead s before next opened
    pub called : e ≡ fault_at left x next

  -- No tree stands at the front of ts. They are a viable prefix of one and end too early; or x is
  -- the first token that doesn't fit: the tokens before it are a viable prefix, with it they are
  -- none, and no tokens that go so far have a tree at their front.
  pub data Stops (size room : ℕ) (s : L.Sort) (ts : List PlacedToken) (e : ExprTextFault) : Type 0
    where
      too_short : e ≡ Syntax size
          → ((t : L.Tree s) (n : ℕ) (rest : List PlacedToken) → Begins L room s t ts n rest → ⊥)
          → ViablePrefix room s ts → Stops size room s ts e
      at_token : (before : List PlacedToken) (x : PlacedToken) (after : List PlacedToken)
          → ts ≡ before ++ x ∷ after
          → ((more : List PlacedToken) (t : L.Tree s) (n : ℕ) (rest : List PlacedToken)
          → Begins L room s t (before ++ x ∷ more) n rest → ⊥) → ViablePrefix room s before
          → (ViablePrefix room s (before ++ x ∷ []) → ⊥) → Misfit room s before x e
          → Stops size room s ts e

  -- a tree that is read stands at the front of the tokens
  abbrev pub FoundLaw : Type 0
  FoundLaw = (size room : ℕ) (s : L.Sort) (ts : List PlacedToken) (t : L.Tree s) (n : ℕ)
      (rest : List PlacedToken) → read L size room s ts ≡ Ok (t, n, rest)
      → Begins L room s t ts n rest

  -- a tree that stands at the front of the tokens is read
  abbrev pub OnlyLaw : Type 0
  OnlyLaw = (size room : ℕ) (s : L.Sort) (ts : List PlacedToken) (t : L.Tree s) (n : ℕ)
      (rest : List PlacedToken) → Begins L room s t ts n rest
      → read L size room s ts ≡ Ok (t, n, rest)

  -- at most one tree of a sort stands at the front of the tokens
  abbrev pub OneReadingLaw : Type 0
  OneReadingLaw = (r q : ℕ) (s : L.Sort) (t u : L.Tree s) (ts : List PlacedToken) (n m : ℕ)
      (rest more : List PlacedToken) → Begins L r s t ts n rest → Begins L q s u ts m more
      → (t ≡ u) × (n ≡ m) × (rest ≡ more)

  -- a fault is answered if and only if it is the first token that doesn't fit, or the end
  abbrev pub TokenFaultLaw : Type 0
  TokenFaultLaw = (size room : ℕ) (s : L.Sort) (ts : List PlacedToken) (e : ExprTextFault)
      → read L size room s ts ≡ Err e ↔ Stops size room s ts e

  -- tokens have at most one fault
  abbrev pub OneFaultLaw : Type 0
  OneFaultLaw = (size room : ℕ) (s : L.Sort) (ts : List PlacedToken) (e f : ExprTextFault)
      → Stops size room s ts e → Stops size room s ts f → e ≡ f
