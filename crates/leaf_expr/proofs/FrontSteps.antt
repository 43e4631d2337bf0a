-- Steps from what a tree begins with.
use Rattle.std.proofs.Common.{◌≡◌, ℕ, zero, suc, ◌+◌, ◌-◌, true, List, [], ◌∷◌, length, refl, sym, subst, ap, arith, Result, Ok}
use Rattle.std.specs.List.{slice_range}
use Rattle.leaf_expr.specs.Token.{opening, closing, word, PlacedToken, tokens_from}
use Rattle.leaf_expr.specs.Language.{Language}
use Rattle.leaf_expr.specs.TreeReader.{word_read, read, read_form}
use Rattle.leaf_expr.specs.Front.{read_front, front_from, front_left}
use Rattle.leaf_expr.specs.ReadText.{GivesTree}
use Rattle.leaf_expr.specs.declared.tree_front.TreeFront.{TreeFront}
use Rattle.leaf_expr.specs.declared.tree_front.TreeFront.TheVariants as F
use Rattle.leaf_expr.specs.declared.text_fault.ExprTextFault.{ExprTextFault}
use Rattle.leaf_expr.proofs.ReadSteps.{Refuses, given, ok_same, refused_ok, refused_same}

-- a token, and those behind it
abbrev Fronted : Type 0
Fronted = PlacedToken × List PlacedToken

-- no word is a parenthesis
no_opening : {m n : ℕ} {w : List ℕ} {ts us : List PlacedToken} {A : Type 0} → ◌≡◌ {A = Fronted} ((m, word w), ts) ((n, opening), us) → A
no_opening {w = w} e = let i : word w ≡ opening = ap (λ (q : Fronted). q.0.1) e in absurd (cc)

module _ (L : Language) (size : ℕ) where
  pub front_form : {n : ℕ} {us : List PlacedToken} (room : ℕ) (s : L.Sort) (ts : List PlacedToken) → L.has_form s ≡ true →
      read_front size room ts ≡ Ok ((n, opening), us) → read L size room s ts ≡ read_form L size (read L size (room - 1)) (room - 1) s us
  front_form room s [] f e = absurd (cc)
  front_form room s ((m, word w) ∷ ts) f e = no_opening (ok_same _ _ e)
  front_form room s ((m, closing) ∷ ts) f e = absurd (cc)
  front_form zero s ((m, opening) ∷ ts) f e = absurd (cc)
  front_form {us = us} (suc room) s ((m, opening) ∷ ts) f e =
      let i : ts ≡ us = ap (λ (q : Fronted). q.1) (ok_same _ _ e) in
      let j : suc room - 1 ≡ room = omega arith in
      rw (f, j, i) refl

  pub front_word : {n : ℕ} {w : List ℕ} {us : List PlacedToken} (room : ℕ) (s : L.Sort) (ts : List PlacedToken) →
      read_front size room ts ≡ Ok ((n, word w), us) → read L size room s ts ≡ word_read n w us (L.word_at s w)
  front_word room s [] e = absurd (cc)
  front_word {n = n} {w = w} {us = us} room s ((m, word v) ∷ ts) e =
      let q = ok_same _ _ e in
      let i : m ≡ n = ap (λ (q : Fronted). q.0.0) q in
      let o : word v ≡ word w = ap (λ (q : Fronted). q.0.1) q in
      let j : v ≡ w = cc in
      let k : ts ≡ us = ap (λ (q : Fronted). q.1) q in
      rw (i, j, k) refl
  front_word room s ((m, closing) ∷ ts) e = absurd (cc)
  front_word zero s ((m, opening) ∷ ts) e = absurd (cc)
  front_word (suc room) s ((m, opening) ∷ ts) e = no_opening (sym (ok_same _ _ e))

  pub front_refused : (x : ExprTextFault) (room : ℕ) (s : L.Sort) (ts : List PlacedToken) → Refuses x (read_front size room ts)
      → Refuses x (read L size room s ts)
  front_refused x room s [] p = refused_same _ _ x _ p
  front_refused x room s ((m, word v) ∷ ts) p = refused_ok x _ _ p
  front_refused x room s ((m, closing) ∷ ts) p = refused_same _ _ x _ p
  front_refused x zero s ((m, opening) ∷ ts) p = refused_same _ _ x _ p
  front_refused x (suc room) s ((m, opening) ∷ ts) p = refused_ok x _ _ p

-- what the code reads behind what it found a tree to begin with is the tree
module _ (L : Language) (s : L.Sort) {X : Type 0} (view : X → L.Tree s × ℕ × List PlacedToken) (r : Result X ExprTextFault)
    (text : List ℕ) (room at : ℕ) {front : TreeFront} where
  pub in_form : {start : ℕ} → L.has_form s ≡ true → front ≡ F.Form start → front_from text room at ≡ Ok (front_left text front) →
      GivesTree view r (read_form L (length text) (read L (length text) (room - 1)) (room - 1) s (tokens_from (start + 1) text)) →
      GivesTree view r (read L (length text) room s (tokens_from at text))
  in_form f e p g = given view r (front_form L (length text) room s (tokens_from at text) f (subst (λ z. front_from text room at ≡ Ok (front_left text z)) e p))
      g

  pub in_word : {start end : ℕ} → front ≡ F.Word start end → front_from text room at ≡ Ok (front_left text front) →
      GivesTree view r (word_read start (slice_range text start end) (tokens_from end text) (L.word_at s (slice_range text start end))) →
      GivesTree view r (read L (length text) room s (tokens_from at text))
  in_word e p g = given view r (front_word L (length text) room s (tokens_from at text) (subst (λ z. front_from text room at ≡ Ok (front_left text z)) e p)) g
