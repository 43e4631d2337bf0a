-- Forms and their parts, one after the other, in any language.
use Rattle.std.proofs.Common.{◌≡◌, ℕ, List, [], ◌∷◌, refl, sym, ap, ◌∙◌, subst, Ok, Err, Some, None}
use Rattle.leaf_expr.specs.Token.{opening, closing, word, PlacedToken}
use Rattle.leaf_expr.specs.Language.{Language, Places, Maker, Production, no_place, place, places}
use Rattle.leaf_expr.specs.Grammar.{leaf}
use Rattle.leaf_expr.specs.TreeReader.{Read, read, read_form, read_production, read_parts, read_head, read_end}
use Rattle.leaf_expr.specs.declared.text_fault.ExprTextFault.{ExprTextFault}
use Rattle.leaf_expr.specs.declared.text_fault.ExprTextFault.TheVariants.{Syntax}
use Rattle.leaf_expr.proofs.ReadSteps.{Refuses, with, with_bind, passed}
use Rattle.leaf_expr.proofs.ItemSteps.{with_all}
use Rattle.sample_core.specs.Answer.{◌>>=◌}

module _ (L : Language) (size room : ℕ) where
  -- the end and the word of a form stand alike in each language
  pub end_same : (ts : List PlacedToken) → read_end L size room ts ≡ read_end leaf size room ts
  end_same [] = refl
  end_same ((n, opening) ∷ ts) = refl
  end_same ((n, closing) ∷ ts) = refl
  end_same ((n, word w) ∷ ts) = refl

  pub head_same : (ts : List PlacedToken) → read_head L size room ts ≡ read_head leaf size room ts
  head_same [] = refl
  head_same ((n, opening) ∷ ts) = refl
  head_same ((n, closing) ∷ ts) = refl
  head_same ((n, word w) ∷ ts) = refl

  -- a form by its word
  pub named : {n : ℕ} {w : List ℕ} {ts : List PlacedToken} (m : ℕ) (s : L.Sort) (us : List PlacedToken) (r : Production L.Sort L.Tree (L.Tree s)) →
      read_head leaf size room us ≡ Ok (n, w, ts) → Some r ≡ L.production_at s w →
      read_form L size (read L size m) room s us ≡ read_parts L size (read L size m) room r.takes r.makes ts
  named {n = n} {ts = ts} m s us r p q =
      ap (λ h. h >>= (λ h. read_production L size (read L size m) room h.0 (L.production_at s h.1) h.2)) (head_same us ∙ p)
      ∙ ap (λ o. read_production L size (read L size m) room n o ts) (sym q)

  pub unnamed : {n : ℕ} {w : List ℕ} {ts : List PlacedToken} (m : ℕ) (s : L.Sort) (us : List PlacedToken) → read_head leaf size room us ≡ Ok (n, w, ts) →
      None ≡ L.production_at s w → read_form L size (read L size m) room s us ≡ Err (Syntax n)
  unnamed {n = n} {ts = ts} m s us p q =
      ap (λ h. h >>= (λ h. read_production L size (read L size m) room h.0 (L.production_at s h.1) h.2)) (head_same us ∙ p)
      ∙ ap (λ o. read_production L size (read L size m) room n o ts) (sym q)

  -- a form without a word
  pub headless : (x : ExprTextFault) (m : ℕ) (s : L.Sort) (us : List PlacedToken) → Refuses x (read_head leaf size room us) →
      Refuses x (read_form L size (read L size m) room s us)
  headless x m s us p = passed x (read_head L size room us) _ (subst (Refuses x) (sym (head_same us)) p)

  -- the parts that a form takes, and its end
  abbrev pub parts : {R : Type 0} → (qs : Places L.Sort) → Maker L.Tree qs R → List PlacedToken → Read R
  parts qs make ts = read_parts L size (read L size room) room qs make ts

  -- behind a part stand the others
  pub part : {R : Type 0} (s : L.Sort) {a : L.Tree s} {n : ℕ} {us : List PlacedToken} (qs : Places L.Sort) (make : L.Tree s → Maker L.Tree qs R)
      (ts : List PlacedToken) → read L size room s ts ≡ Ok (a, n, us) → parts (place s qs) make ts ≡ parts qs (make a) us
  part s qs make ts p = ap (λ r. r >>= (λ x. parts qs (make x.0) x.2)) p

  pub no_part : {R : Type 0} (s : L.Sort) (x : ExprTextFault) (qs : Places L.Sort) (make : L.Tree s → Maker L.Tree qs R) (ts : List PlacedToken) →
      Refuses x (read L size room s ts) → Refuses x (parts (place s qs) make ts)
  no_part s x qs make ts p = passed x (read L size room s ts) _ p

  -- behind the last part stands the end
  pub ended : {R : Type 0} (r : R) {j : ℕ} {ws : List PlacedToken} (ts : List PlacedToken) → read_end leaf size room ts ≡ Ok (j, ws) →
      parts no_place r ts ≡ Ok (r, j, ws)
  ended r ts p = ap (λ q. q >>= (λ y. Ok (r, y.0, y.1))) (end_same ts ∙ p)

  pub no_end : {R : Type 0} (r : R) (x : ExprTextFault) (ts : List PlacedToken) → Refuses x (read_end leaf size room ts) → Refuses x (parts no_place r ts)
  no_end r x ts p = passed x (read_end L size room ts) _ (subst (Refuses x) (sym (end_same ts)) p)

  -- what makes a Q, where an R is made, and that is made into a Q
  abbrev pub mapped : {R Q : Type 0} → (R → Q) → (qs : Places L.Sort) → Maker L.Tree qs R → Maker L.Tree qs Q
  mapped h no_place r = h r
  mapped h (place s qs) make = λ x. mapped h qs (make x)
  mapped h (places s) make = λ xs. h (make xs)

  -- what is made of the parts, made into something else
  mapped_parts : {R Q : Type 0} (h : R → Q) (qs : Places L.Sort) (make : Maker L.Tree qs R) (ts : List PlacedToken) →
      parts qs (mapped h qs make) ts ≡ with h (parts qs make ts)
  mapped_parts h no_place r ts = with_bind h (read_end L size room ts) _ _ (λ y. refl)
  mapped_parts h (place s qs) make ts = with_bind h (read L size room s ts) _ _ (λ x. mapped_parts h qs (make x.0) x.2)
  mapped_parts h (places s) make ts = with_all L size (read L size room s) h _ make ts

  pub parts_made : {R Q : Type 0} (h : R → Q) {x : R} {n : ℕ} {us : List PlacedToken} (qs : Places L.Sort) (make : Maker L.Tree qs R) (ts : List PlacedToken) →
      parts qs make ts ≡ Ok (x, n, us) → parts qs (mapped h qs make) ts ≡ Ok (h x, n, us)
  parts_made h qs make ts p = mapped_parts h qs make ts ∙ ap (with h) p

  pub parts_refused : {R Q : Type 0} (h : R → Q) (x : ExprTextFault) (qs : Places L.Sort) (make : Maker L.Tree qs R) (ts : List PlacedToken) →
      Refuses x (parts qs make ts) → Refuses x (parts qs (mapped h qs make) ts)
  parts_refused h x qs make ts p = λ m. mapped_parts h qs make ts ∙ ap (with h) (p m)
