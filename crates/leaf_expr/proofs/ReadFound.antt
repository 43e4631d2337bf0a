-- What is read is in the grammar.
use Rattle.std.proofs.Common.{◌≡◌, ℕ, zero, suc, ◌≤◌, Bool, true, false, if◌then◌else◌, List, [], ◌∷◌, length, refl, sym, ap, subst, arith, Option, Some, None, Result, Ok, Err}
use Rattle.leaf_expr.specs.WordReading.{WordReading, reads, misspelt, unfit}
use Rattle.leaf_expr.specs.Token.{opening, closing, word, PlacedToken}
use Rattle.leaf_expr.specs.Sexpr.{Sexprs, atom, form, last, more, Spells, SpellAll, atom_spells, form_spells, last_spells, more_spells, depth, depths}
use Rattle.leaf_expr.specs.Language.{Language, Begins, Places, Maker, Production, no_place, place, places, make_tree, read_word}
use Rattle.leaf_expr.specs.TreeReader.{Read, word_read, close, read_all, read_parts, read_production, read_form, read}
use Rattle.sample_core.specs.Answer.{◌>>=◌}
use Rattle.leaf_expr.specs.declared.text_fault.ExprTextFault.{ExprTextFault}
use Rattle.leaf_expr.specs.declared.text_fault.ExprTextFault.TheVariants.{Syntax}

pub ok_is : {A : Type 0} {x y : A} → ◌≡◌ {A = Result A ExprTextFault} (Ok x) (Ok y) → x ≡ y
ok_is e = cc

pub bind_ok : {A B : Type 0} (r : Result A ExprTextFault) (g : A → Result B ExprTextFault) (y : B) → (r >>= g) ≡ Ok y → (x : A) × (r ≡ Ok x) × (g x ≡ Ok y)
bind_ok (Ok x) g y e = (x, refl, e)
bind_ok (Err f) g y e = absurd (cc)

module _ (L : Language) where
  abbrev pub Found : ℕ → (s : L.Sort) → L.Tree s × ℕ × List PlacedToken → List PlacedToken → Type 0
  Found room s x ts = Begins L room s x.0 ts x.1 x.2

  pub record FoundAll (room : ℕ) (s : L.Sort) (qs : Places L.Sort) (make : Maker L.Tree qs (L.Tree s)) (x : L.Tree s × ℕ × List PlacedToken)
      (ts : List PlacedToken) : Type 0 where
    pub parts : Sexprs
    pub end : ℕ
    pub spell : SpellAll parts ts ((end, closing) ∷ x.2)
    pub behind : x.1 ≡ suc end
    pub make_it : make_tree L s qs make parts ≡ Some x.0
    pub within : depths parts ≤ room

  module _ (size room : ℕ) (reader : (s : L.Sort) → List PlacedToken
      → Read (L.Tree s)) (h : (s : L.Sort) (ts : List PlacedToken) (x : L.Tree s × ℕ × List PlacedToken) → reader s ts ≡ Ok x → Found room s x ts) where
    -- a part that is found and the parts found behind it, of places of which they make the tree
    found_with : {s q : L.Sort} (ps qs : Places L.Sort) (make : Maker L.Tree ps (L.Tree s)) (rest : Maker L.Tree qs (L.Tree s)) (ts : List PlacedToken)
        (y : L.Tree s × ℕ × List PlacedToken) (x : L.Tree q × ℕ × List PlacedToken) (i : Found room q x ts) (j : FoundAll room s qs rest y x.2)
        → make_tree L s ps make (more i.part j.parts) ≡ Some y.0 → FoundAll room s ps make y ts
    found_with ps qs make rest ts y x i j made =
        record {
          parts = more i.part j.parts;
          end = j.end;
          spell = more_spells i.spells j.spell;
          behind = j.behind;
          make_it = made;
          within =
              let a : depth i.part ≤ room = i.within in let b : depths j.parts ≤ room = j.within in omega arith;
        }

    found_more : {s q : L.Sort} (qs : Places L.Sort) (make : Maker L.Tree (place q qs) (L.Tree s)) (ts : List PlacedToken) (y : L.Tree s × ℕ × List PlacedToken)
        (x : L.Tree q × ℕ × List PlacedToken) → Found room q x ts → FoundAll room s qs (make x.0) y x.2 → FoundAll room s (place q qs) make y ts
    found_more {q = q} qs make ts y x i j = found_with (place q qs) qs make (make x.0) ts y x i j (rw i.means j.make_it)

    found_another : {s q : L.Sort} (make : List (L.Tree q)
        → L.Tree s) (ts : List PlacedToken) (y : L.Tree s × ℕ × List PlacedToken) (x : L.Tree q × ℕ × List PlacedToken) → Found room q x ts
        → FoundAll room s (places q) (λ xs. make (x.0 ∷ xs)) y x.2 → FoundAll room s (places q) make y ts
    found_another {q = q} make ts y x i j = found_with (places q) (places q) make (λ xs. make (x.0 ∷ xs)) ts y x i j (rw i.means j.make_it)

    found_all : {s : L.Sort} (q : L.Sort) (n : ℕ) (make : List (L.Tree q) → L.Tree s) (ts : List PlacedToken) (y : L.Tree s × ℕ × List PlacedToken)
        → read_all L size (reader q) n make ts ≡ Ok y → FoundAll room s (places q) make y ts
    found_all q zero make ts y e = absurd (cc)
    found_all q (suc n) make [] y e = absurd (cc)
    found_all {s = s} q (suc n) make ((m, closing) ∷ ts) y e =
        subst (λ z. FoundAll room s (places q) make z ((m, closing) ∷ ts)) (ok_is e)
        (record { parts = last; end = m; spell = last_spells; behind = refl; make_it = refl; within = omega arith })
    found_all q (suc n) make ((m, word w) ∷ ts) y e =
        let b : (x : L.Tree q × ℕ × List PlacedToken) × (reader q ((m, word w) ∷ ts) ≡ Ok x)
        × (read_all L size (reader q) n (λ xs. make (x.0 ∷ xs)) x.2 ≡ Ok y) = bind_ok _ _ y e in
        found_another make _ y b.0 (h q _ b.0 b.1) (found_all q n (λ xs. make (b.0.0 ∷ xs)) b.0.2 y b.2)
    found_all q (suc n) make ((m, opening) ∷ ts) y e =
        let b : (x : L.Tree q × ℕ × List PlacedToken) × (reader q ((m, opening) ∷ ts) ≡ Ok x)
        × (read_all L size (reader q) n (λ xs. make (x.0 ∷ xs)) x.2 ≡ Ok y) = bind_ok _ _ y e in
        found_another make _ y b.0 (h q _ b.0 b.1) (found_all q n (λ xs. make (b.0.0 ∷ xs)) b.0.2 y b.2)

    found_close : {s : L.Sort} (x : L.Tree s) (ts : List PlacedToken) (y : L.Tree s × ℕ × List PlacedToken) → close L size room x ts ≡ Ok y
        → FoundAll room s no_place x y ts
    found_close x [] y e = absurd (cc)
    found_close {s = s} x ((m, closing) ∷ ts) y e =
        subst (λ z. FoundAll room s no_place x z ((m, closing) ∷ ts)) (ok_is e)
        (record { parts = last; end = m; spell = last_spells; behind = refl; make_it = refl; within = omega arith })
    found_close x ((m, word w) ∷ ts) y e = absurd (cc)
    found_close x ((m, opening) ∷ ts) y e = absurd (cc)

    found_parts : {s : L.Sort} (qs : Places L.Sort) (make : Maker L.Tree qs (L.Tree s)) (ts : List PlacedToken) (y : L.Tree s × ℕ × List PlacedToken)
        → read_parts L size reader room qs make ts ≡ Ok y → FoundAll room s qs make y ts
    found_parts no_place make ts y e = found_close make ts y e
    found_parts (place q qs) make ts y e =
        let b : (x : L.Tree q × ℕ × List PlacedToken) × (reader q ts ≡ Ok x) × (read_parts L size reader room qs (make x.0) x.2 ≡ Ok y) = bind_ok _ _ y e in
        found_more qs make ts y b.0 (h q ts b.0 b.1) (found_parts qs (make b.0.0) b.0.2 y b.2)
    found_parts (places q) make ts y e = found_all q (length ts) make ts y e

    found_production : {s : L.Sort} (n m : ℕ) (w : List ℕ) (r : Option (Production L.Sort L.Tree (L.Tree s))) (ts : List PlacedToken) (y : L.Tree s × ℕ × List PlacedToken)
        → L.production_at s w ≡ r → read_production L size reader room m r ts ≡ Ok y → Found (suc room) s y ((n, opening) ∷ (m, word w) ∷ ts)
    found_production n m w None ts y a e = absurd (cc)
    found_production {s = s} n m w (Some r) ts y a e =
        let i : FoundAll room s r.takes r.makes y ts = found_parts r.takes r.makes ts y e in
        let a' : SpellAll i.parts ts ((i.end, closing) ∷ y.2) = i.spell in
        record {
          part = form w i.parts;
          spells = subst (λ z. Spells (form w i.parts) ((n, opening) ∷ (m, word w) ∷ ts) z y.2) (sym i.behind) (form_spells a');
          means = rw a i.make_it;
          within = let b : depths i.parts ≤ room = i.within in omega arith;
        }

    found_form : (s : L.Sort) (n : ℕ) (ts : List PlacedToken) (y : L.Tree s × ℕ × List PlacedToken) → read_form L size reader room s ts ≡ Ok y
        → Found (suc room) s y ((n, opening) ∷ ts)
    found_form s n [] y e = absurd (cc)
    found_form s n ((m, word w) ∷ ts) y e = found_production n m w (L.production_at s w) ts y refl e
    found_form s n ((m, opening) ∷ ts) y e = absurd (cc)
    found_form s n ((m, closing) ∷ ts) y e = absurd (cc)

    found_opened : (s : L.Sort) (b : Bool) (n : ℕ) (ts : List PlacedToken) (y : L.Tree s × ℕ × List PlacedToken)
        → (if b then read_form L size reader room s ts else Err (Syntax n)) ≡ Ok y → Found (suc room) s y ((n, opening) ∷ ts)
    found_opened s true n ts y e = found_form s n ts y e
    found_opened s false n ts y e = absurd (cc)

  found_word : (room : ℕ) (s : L.Sort) (n : ℕ) (w : List ℕ) (ts : List PlacedToken) (r : WordReading (L.Tree s)) (y : L.Tree s × ℕ × List PlacedToken)
      → L.word_at s w ≡ r → word_read n w ts r ≡ Ok y → Found room s y ((n, word w) ∷ ts)
  found_word room s n w ts (reads x) y a e = subst (λ z. Found room s z ((n, word w) ∷ ts)) (ok_is e)
      (record { part = atom w; spells = atom_spells; means = ap read_word a; within = omega arith })
  found_word room s n w ts misspelt y a e = absurd (cc)
  found_word room s n w ts unfit y a e = absurd (cc)

  pub found : (size room : ℕ) (s : L.Sort) (ts : List PlacedToken) (y : L.Tree s × ℕ × List PlacedToken) → read L size room s ts ≡ Ok y → Found room s y ts
  found size zero s [] y e = absurd (cc)
  found size zero s ((n, word w) ∷ ts) y e = found_word zero s n w ts (L.word_at s w) y refl e
  found size zero s ((n, closing) ∷ ts) y e = absurd (cc)
  found size zero s ((n, opening) ∷ ts) y e = absurd (cc)
  found size (suc room) s [] y e = absurd (cc)
  found size (suc room) s ((n, word w) ∷ ts) y e = found_word (suc room) s n w ts (L.word_at s w) y refl e
  found size (suc room) s ((n, closing) ∷ ts) y e = absurd (cc)
  found size (suc room) s ((n, opening) ∷ ts) y e = found_opened size room (read L size room) (found size room) s (L.has_form s) n ts y e
