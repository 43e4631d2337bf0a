-- Tokens have at most one fault: they lead to one place, and one token is the first that doesn't fit.
use Rattle.std.proofs.Common.{◌≡◌, ◌⊎◌, inl, inr, ℕ, suc, List, [], ◌∷◌, ◌++◌, refl, sym, ap, ◌∙◌, subst, arith, append_assoc, Option, Some, Ok, Err}
use Rattle.std.specs.Prelude.{option_and_then}
use Rattle.leaf_expr.specs.Token.{Token, closing, word, PlacedToken}
use Rattle.leaf_expr.specs.Sexpr.{Sexpr, Sexprs, Spells, SpellAll, atom_spells, form_spells, last_spells, more_spells, depth}
use Rattle.leaf_expr.specs.Language.{Language, Begins, Places, Maker, Production, places, meant, make_tree}
use Rattle.leaf_expr.specs.TreeReader.{Read, read}
use Rattle.leaf_expr.specs.ReadLaws.{Completes, ViablePrefix, Whole, TokensLead, TokensLeadIn, at_tree, at_word, in_form, at_end, in_part, behind, in_item, behind_item, fault_at, Misfit, Stops, too_short, at_token, TokenFaultLaw, OneFaultLaw}
use Rattle.leaf_expr.proofs.Proper.{Proper}
use Rattle.leaf_expr.proofs.Opened.{opens_front}
use Rattle.leaf_expr.proofs.ReadFound.{found}
use Rattle.leaf_expr.proofs.ReadOnly.{some_bind}
use Rattle.leaf_expr.proofs.ReadFaults.{one_reading, stops}
use Rattle.leaf_expr.specs.declared.text_fault.ExprTextFault.{ExprTextFault}

some_is : {A : Type 0} {x y : A} → Some x ≡ Some y → x ≡ y
some_is e = cc

tail_is : {x y : PlacedToken} {us vs : List PlacedToken} → x ∷ us ≡ y ∷ vs → us ≡ vs
tail_is e = cc

head_is : {n m : ℕ} {a b : Token} {us vs : List PlacedToken} → ◌≡◌ {A = List PlacedToken} ((n, a) ∷ us) ((m, b) ∷ vs) → a ≡ b
head_is {n = n} {m = m} {a = a} {b = b} e = let p : ◌≡◌ {A = PlacedToken} (n, a) (m, b) = cc in ap (λ z. z.1) p

apart : {n m : ℕ} {a b : Token} {us vs : List PlacedToken} → ◌≡◌ {A = List PlacedToken} ((n, a) ∷ us) ((m, b) ∷ vs) → (a ≡ b → ⊥) → ⊥
apart e h = h (head_is e)

-- what stands behind two tokens of one list: one token, or one of them stands before the other
meet : (us vs : List PlacedToken) (x y : PlacedToken) (ts ws : List PlacedToken) → us ++ x ∷ ts ≡ vs ++ y ∷ ws
    → ((us ≡ vs) × (x ≡ y)) ⊎ (((mid : List PlacedToken) × (vs ≡ us ++ x ∷ mid)) ⊎ ((mid : List PlacedToken) × (us ≡ vs ++ y ∷ mid)))
meet [] [] x y ts ws e = inl (refl, cc)
meet [] (v ∷ vs) x y ts ws e = let p : v ≡ x = cc in inr (inl (vs, ap (λ z. z ∷ vs) p))
meet (u ∷ us) [] x y ts ws e = let p : u ≡ y = cc in inr (inr (us, ap (λ z. z ∷ us) p))
meet (u ∷ us) (v ∷ vs) x y ts ws e = go (meet us vs x y ts ws (tail_is e))
  where
    p : u ≡ v
    p = cc

    go : ((us ≡ vs) × (x ≡ y)) ⊎ (((mid : List PlacedToken) × (vs ≡ us ++ x ∷ mid)) ⊎ ((mid : List PlacedToken) × (us ≡ vs ++ y ∷ mid)))
        → ((u ∷ us ≡ v ∷ vs) × (x ≡ y))
        ⊎ (((mid : List PlacedToken) × (v ∷ vs ≡ u ∷ us ++ x ∷ mid)) ⊎ ((mid : List PlacedToken) × (u ∷ us ≡ v ∷ vs ++ y ∷ mid)))
    go (inl h) = let q : us ≡ vs = h.0 in inl (cc, h.1)
    go (inr (inl h)) = let q : vs ≡ us ++ x ∷ h.0 = h.1 in inr (inl (h.0, cc))
    go (inr (inr h)) = let q : us ≡ vs ++ y ∷ h.0 = h.1 in inr (inr (h.0, cc))

-- no tree begins with a closing parenthesis
no_closing : (p : Sexpr) (ts : List PlacedToken) (n : ℕ) (rest : List PlacedToken) → Spells p ts n rest → (k : ℕ) (us : List PlacedToken)
    → ◌≡◌ {A = List PlacedToken} ((k, closing) ∷ us) ts → ⊥
no_closing p ts n rest atom_spells k us e = apart e (λ p. cc)
no_closing p ts n rest (form_spells h) k us e = apart e (λ p. cc)

module _ (L : Language) where
  none_leads : {s : L.Sort} {us : List PlacedToken} {q : Option L.Sort} {d : ℕ} → TokensLead L s us q d → (k : ℕ) (vs : List PlacedToken)
      → ◌≡◌ {A = List PlacedToken} ((k, closing) ∷ vs) us → ⊥
  none_leads at_tree k vs e = cc
  none_leads (at_word f) k vs e = apart e (λ p. cc)
  none_leads (in_form f a i) k vs e = apart e (λ p. cc)

  with_production : (s : L.Sort) (ps : Sexprs) (t : L.Tree s) (r : Production L.Sort L.Tree (L.Tree s)) (o : Option (Production L.Sort L.Tree (L.Tree s))) → o ≡ Some r
      → option_and_then (λ z. make_tree L s z.takes z.makes ps) o ≡ Some t → make_tree L s r.takes r.makes ps ≡ Some t
  with_production s ps t r o e h = rw e at h

  module _ (proper : Proper L) where
    -- a tree has one end
    same_end : (q : L.Sort) (t u : L.Tree q) (p : Sexpr) (front us ts : List PlacedToken) (n : ℕ) (rest : List PlacedToken) → Whole L q u front
        → Spells p ts n rest → meant L q p ≡ Some t → ts ≡ front ++ us → rest ≡ us
    same_end q t u p front us ts n rest w h m e =
        let a : Begins L (depth p) q t (front ++ us) n rest =
        record { part = p; spells = subst (λ z. Spells p z n rest) e h; means = m; within = omega arith } in
        let b : Begins L (depth w.part) q u (front ++ us) w.stop us = record { part = w.part; spells = w.spells us; means = w.means; within = omega arith } in
        (one_reading L proper (depth p) (depth w.part) q t u (front ++ us) n w.stop rest us a b).2

    mutual
      -- tokens that lead somewhere in a tree are none
      no_tree : {s : L.Sort} {us : List PlacedToken} {q : Option L.Sort} {d : ℕ} → TokensLead L s us q d → (p : Sexpr) (ts : List PlacedToken) (n : ℕ)
          (rest : List PlacedToken) (t : L.Tree s) → Spells p ts n rest → ts ≡ us → meant L s p ≡ Some t → ⊥
      no_tree at_tree p ts n rest t atom_spells e m = cc
      no_tree at_tree p ts n rest t (form_spells h) e m = cc
      no_tree (at_word f) p ts n rest t atom_spells e m = apart e (λ p. cc)
      no_tree (at_word f) p ts n rest t (form_spells h) e m = cc
      no_tree (in_form f a i) p ts n rest t atom_spells e m = apart e (λ p. cc)
      no_tree {s = s} (in_form {w = w} {r = r} {us = us} f a i) p ts n rest t (form_spells {k = k} {w = v} {ps = ps} {ts = vs} h) e m =
          let h' : word v ≡ word w = head_is (tail_is e) in
          let c : v ≡ w = cc in
          let b : vs ≡ us = tail_is (tail_is e) in
          no_parts i s r.makes ps vs ((k, closing) ∷ rest) k rest t h refl b (with_production s ps t r (L.production_at s v) (ap (L.production_at s) c ∙ a) m)

      -- and tokens of the parts of a form
      no_parts : {qs : Places L.Sort} {us : List PlacedToken} {q : Option L.Sort} {d : ℕ} → TokensLeadIn L qs us q d → (s : L.Sort)
          (make : Maker L.Tree qs (L.Tree s)) (ps : Sexprs) (ts mid : List PlacedToken) (k : ℕ) (rest : List PlacedToken) (t : L.Tree s) → SpellAll ps ts mid
          → mid ≡ (k, closing) ∷ rest → ts ≡ us → make_tree L s qs make ps ≡ Some t → ⊥
      no_parts at_end s make ps ts mid k rest t last_spells g e m = cc
      no_parts at_end s make ps ts mid k rest t (more_spells h hs) g e m = cc
      no_parts (in_part i) s make ps ts mid k rest t last_spells g e m = cc
      no_parts (in_part {p = p} {qs = qs} i) s make ps ts mid k rest t (more_spells {n = n} {p = a} {ps = bs} {mid = vs} h hs) g e m =
          let b : (x : L.Tree p) × (meant L p a ≡ Some x) × (make_tree L s qs (make x) bs ≡ Some t) = some_bind (meant L p a) _ t m in
          no_tree i a ts n vs b.0 h e b.1
      no_parts (behind w i) s make ps ts mid k rest t last_spells g e m = cc
      no_parts (behind {p = p} {qs = qs} {t = u} {front = front} {us = us} w i) s make ps ts mid k rest t
          (more_spells {n = n} {p = a} {ps = bs} {mid = vs} h hs) g e m =
          let b : (x : L.Tree p) × (meant L p a ≡ Some x) × (make_tree L s qs (make x) bs ≡ Some t) = some_bind (meant L p a) _ t m in
          no_parts i s (make b.0) bs vs mid k rest t hs g (same_end p b.0 u a front us ts n vs w h b.1 e) b.2
      no_parts (in_item i) s make ps ts mid k rest t last_spells g e m = none_leads i k rest (sym g ∙ e)
      no_parts (in_item {p = p} i) s make ps ts mid k rest t (more_spells {n = n} {p = a} {ps = bs} {mid = vs} h hs) g e m =
          let b : (x : L.Tree p) × (meant L p a ≡ Some x) × (make_tree L s (places p) (λ xs. make (x ∷ xs)) bs ≡ Some t) = some_bind (meant L p a) _ t m in
          no_tree i a ts n vs b.0 h e b.1
      no_parts (behind_item {us = us} w i) s make ps ts mid k rest t last_spells g e m = no_closing w.part _ w.stop us (w.spells us) k rest (sym g ∙ e)
      no_parts (behind_item {p = p} {t = u} {front = front} {us = us} w i) s make ps ts mid k rest t
          (more_spells {n = n} {p = a} {ps = bs} {mid = vs} h hs) g e m =
          let b : (x : L.Tree p) × (meant L p a ≡ Some x) × (make_tree L s (places p) (λ xs. make (x ∷ xs)) bs ≡ Some t) = some_bind (meant L p a) _ t m in
          no_parts i s (λ xs. make (b.0 ∷ xs)) bs vs mid k rest t hs g (same_end p b.0 u a front us ts n vs w h b.1 e) b.2

    mutual
      -- tokens lead to one place
      one_place : {s : L.Sort} {us vs : List PlacedToken} {q r : Option L.Sort} {d c : ℕ} → TokensLead L s us q d → TokensLead L s vs r c → us ≡ vs
          → (q ≡ r) × (d ≡ c)
      one_place at_tree at_tree e = (refl, refl)
      one_place at_tree (at_word g) e = absurd (cc)
      one_place at_tree (in_form g b j) e = absurd (cc)
      one_place (at_word f) at_tree e = absurd (cc)
      one_place (at_word f) (at_word g) e = (refl, refl)
      one_place (at_word f) (in_form g b j) e = absurd (cc)
      one_place (in_form f a i) at_tree e = absurd (cc)
      one_place (in_form f a i) (at_word g) e = absurd (cc)
      one_place {s = s} (in_form {w = w} {r = x} {us = us} f a i) (in_form {w = v} {r = y} {us = vs} {q = z} {d = c} g b j) e =
          let h' : word w ≡ word v = head_is (tail_is e) in
          let p : w ≡ v = cc in
          let u : us ≡ vs = tail_is (tail_is e) in
          let o : y ≡ x = some_is (sym b ∙ (ap (L.production_at s) (sym p) ∙ a)) in
          let h = one_inside i (subst (λ production. TokensLeadIn L production.takes vs z c) o j) u in
          (h.0, ap suc h.1)

      one_inside : {qs : Places L.Sort} {us vs : List PlacedToken} {q r : Option L.Sort} {d c : ℕ} → TokensLeadIn L qs us q d → TokensLeadIn L qs vs r c → us ≡ vs
          → (q ≡ r) × (d ≡ c)
      one_inside at_end at_end e = (refl, refl)
      one_inside (in_part i) (in_part j) e = one_place i j e
      one_inside (in_part i) (behind {t = t} {us = us} w j) e = absurd (no_tree i w.part _ w.stop us t (w.spells us) (sym e) w.means)
      one_inside (behind {t = t} {us = us} w i) (in_part j) e = absurd (no_tree j w.part _ w.stop us t (w.spells us) e w.means)
      one_inside (behind {p = p} {t = t} {front = front} {us = us} w i) (behind {t = u} {front = other} {us = vs} v j) e =
          one_inside i j (same_end p t u w.part other vs _ w.stop us v (w.spells us) w.means e)
      one_inside (in_item i) (in_item j) e = one_place i j e
      one_inside (in_item i) (behind_item {t = t} {us = us} w j) e = absurd (no_tree i w.part _ w.stop us t (w.spells us) (sym e) w.means)
      one_inside (behind_item {t = t} {us = us} w i) (in_item j) e = absurd (no_tree j w.part _ w.stop us t (w.spells us) e w.means)
      one_inside (behind_item {p = p} {t = t} {front = front} {us = us} w i) (behind_item {t = u} {front = other} {us = vs} v j) e =
          one_inside i j (same_end p t u w.part other vs _ w.stop us v (w.spells us) w.means e)

    one_misfit : (room : ℕ) (s : L.Sort) (us vs : List PlacedToken) (x y : PlacedToken) (e f : ExprTextFault) → us ≡ vs → x ≡ y → Misfit L room s us x e
        → Misfit L room s vs y f → e ≡ f
    one_misfit room s us vs x y e f p o a b =
        let h : (a.next ≡ b.next) × (a.opened ≡ b.opened) = one_place a.leads b.leads p in
        let q : a.next ≡ b.next = h.0 in
        let l : a.left ≡ b.left = let g : a.opened ≡ b.opened = h.1 in omega (arith, a.counts, b.counts) in
        let c : e ≡ fault_at L a.left x a.next = a.called in
        let d : f ≡ fault_at L b.left y b.next = b.called in
        cc

    -- what begins a viable prefix is one
    viable_front : (room : ℕ) (s : L.Sort) (us vs : List PlacedToken) → ViablePrefix L room s (us ++ vs) → ViablePrefix L room s us
    viable_front room s us vs v =
        let c : Completes L s (us ++ vs) = v.completes in
        record {
          opens = opens_front room us vs v.opens;
          completes =
              record {
                end = vs ++ c.end;
                stop = c.stop;
                part = c.part;
                tree = c.tree;
                spells = λ ts.
                    subst (λ z. Spells c.part z c.stop ts) (append_assoc us vs (c.end ++ ts) ∙ ap (λ z. us ++ z) (sym (append_assoc vs c.end ts)))
                    (c.spells ts);
                means = c.means;
              };
        }

    -- a token with which no tokens are a viable prefix stands in none
    viable_none : (room : ℕ) (s : L.Sort) (us : List PlacedToken) (x : PlacedToken) (mid vs : List PlacedToken) → vs ≡ us ++ x ∷ mid
        → ViablePrefix L room s vs → (ViablePrefix L room s (us ++ x ∷ []) → ⊥) → ⊥
    viable_none room s us x mid vs e v h =
        h (viable_front room s (us ++ x ∷ []) mid (subst (ViablePrefix L room s) (e ∙ sym (append_assoc us (x ∷ []) mid)) v))

    pub one_fault : OneFaultLaw L
    one_fault size room s ts e f (too_short a h v) (too_short b g w) = a ∙ sym b
    one_fault size room s ts e f (too_short a h v) (at_token us x after p g w n m) = absurd (viable_none room s us x after ts p v n)
    one_fault size room s ts e f (at_token us x after p g w n m) (too_short a h v) = absurd (viable_none room s us x after ts p v n)
    one_fault size room s ts e f (at_token us x after p g w n m) (at_token vs y other q h v k l) = go (meet us vs x y after other (sym p ∙ q))
      where
        go : ((us ≡ vs) × (x ≡ y)) ⊎ (((mid : List PlacedToken) × (vs ≡ us ++ x ∷ mid)) ⊎ ((mid : List PlacedToken) × (us ≡ vs ++ y ∷ mid))) → e ≡ f
        go (inl i) = one_misfit room s us vs x y e f i.0 i.1 m l
        go (inr (inl i)) = absurd (viable_none room s us x i.0 vs i.1 v n)
        go (inr (inr i)) = absurd (viable_none room s vs y i.0 us i.1 w k)

    -- where tokens have a fault, no tree stands at their front
    none_begins : (size room : ℕ) (s : L.Sort) (ts : List PlacedToken) (e : ExprTextFault) → Stops L size room s ts e → (t : L.Tree s) (n : ℕ)
        (rest : List PlacedToken) → Begins L room s t ts n rest → ⊥
    none_begins size room s ts e (too_short a h v) t n rest b = h t n rest b
    none_begins size room s ts e (at_token us x after p h v k m) t n rest b = h after t n rest (subst (λ z. Begins L room s t z n rest) p b)

    pub refuses : (size room : ℕ) (s : L.Sort) (ts : List PlacedToken) (e : ExprTextFault) → Stops L size room s ts e → read L size room s ts ≡ Err e
    refuses size room s ts e h = go (read L size room s ts) refl
      where
        go : (r : Read (L.Tree s)) → read L size room s ts ≡ r → read L size room s ts ≡ Err e
        go (Ok y) q = absurd (none_begins size room s ts e h y.0 y.1 y.2 (found L size room s ts y q))
        go (Err f) q = q ∙ ap Err (one_fault size room s ts f e (stops L proper size room s ts f q) h)

    pub fault_law : TokenFaultLaw L
    fault_law size room s ts e = (stops L proper size room s ts e, refuses size room s ts e)
