-- What is in the grammar is read, whatever follows.
use Rattle.std.proofs.Common.{◌≡◌, ℕ, zero, suc, ◌+◌, ◌≤◌, ◌<◌, Bool, true, false, if◌then◌else◌, List, ◌∷◌, length, refl, ◌∙◌, arith, Option, Some, None, Ok, Err}
use Rattle.std.specs.Prelude.{option_and_then}
use Rattle.leaf_expr.specs.WordReading.{WordReading, reads, misspelt, unfit}
use Rattle.leaf_expr.specs.Token.{closing, word, PlacedToken}
use Rattle.leaf_expr.specs.Sexpr.{Sexpr, Sexprs, form, Spells, SpellAll, atom_spells, form_spells, last_spells, more_spells, depth, depths}
use Rattle.leaf_expr.specs.Language.{Language, Places, Maker, Production, no_place, place, places, meant, make_tree, read_word}
use Rattle.leaf_expr.specs.TreeReader.{Read, word_read, read_all, read_parts, read_production, read_form, read}
use Rattle.leaf_expr.proofs.Proper.{Proper}
use Rattle.sample_core.specs.Answer.{◌>>=◌}
use Rattle.leaf_expr.specs.declared.text_fault.ExprTextFault.TheVariants.{Syntax}

mutual
  pub shorter : (p : Sexpr) (ts : List PlacedToken) (n : ℕ) (rest : List PlacedToken) → Spells p ts n rest → length rest < length ts
  shorter p ts n rest atom_spells = omega arith
  shorter p ts n rest (form_spells {k = k} {ps = ps} {ts = ts'} h) = let i : length ((k, closing) ∷ rest) ≤ length ts' = all_shorter ps ts' _ h in omega arith

  pub all_shorter : (ps : Sexprs) (ts rest : List PlacedToken) → SpellAll ps ts rest → length rest ≤ length ts
  all_shorter ps ts rest last_spells = omega arith
  all_shorter ps ts rest (more_spells {n = n} {p = p} {ps = ps'} {mid = mid} h hs) =
      let i : length mid < length ts = shorter p ts n mid h in let j : length rest ≤ length mid = all_shorter ps' mid rest hs in omega arith

pub some_bind : {A B : Type 0} (o : Option A) (g : A → Option B) (y : B) → option_and_then g o ≡ Some y → (x : A) × (o ≡ Some x) × (g x ≡ Some y)
some_bind (Some x) g y e = (x, refl, e)
some_bind None g y e = absurd (cc)

module _ (L : Language) where
  -- reading at the front of a part does not see a closing parenthesis
  pub read_all_spelled : {T R : Type 0} (size : ℕ) (reader : List PlacedToken → Read T) (n : ℕ) (make : List T
      → R) (p : Sexpr) (ts : List PlacedToken) (m : ℕ) (rest : List PlacedToken) → Spells p ts m rest
      → read_all L size reader (suc n) make ts ≡ (reader ts >>= (λ x. read_all L size reader n (λ xs. make (x.0 ∷ xs)) x.2))
  read_all_spelled size reader n make p ts m rest atom_spells = refl
  read_all_spelled size reader n make p ts m rest (form_spells h) = refl

  module _ (proper : Proper L) where
    -- a sort without forms has no production
    pub formless_means : (s : L.Sort) (w : List ℕ) (ps : Sexprs) (t : L.Tree s) → L.has_form s ≡ false → meant L s (form w ps) ≡ Some t → ⊥
    formless_means s w ps t f e = go (L.production_at s w) (proper.formless s w f) e
      where
        go : (r : Option (Production L.Sort L.Tree (L.Tree s))) → r ≡ None → option_and_then (λ z. make_tree L s z.takes z.makes ps) r ≡ Some t → ⊥
        go None i j = cc
        go (Some r) i j = cc

    module _ (size room : ℕ) (reader : (s : L.Sort) → List PlacedToken
        → Read (L.Tree s)) (h : (s : L.Sort) (p : Sexpr) (ts : List PlacedToken) (n : ℕ) (rest : List PlacedToken) (t : L.Tree s) → Spells p ts n rest
        → meant L s p ≡ Some t → depth p ≤ room → reader s ts ≡ Ok (t, n, rest)) where
      only_all : (s : L.Sort) (q : L.Sort) (n k : ℕ) (make : List (L.Tree q) → L.Tree s) (ps : Sexprs) (ts rest : List PlacedToken) (t : L.Tree s)
          → SpellAll ps ts ((k, closing) ∷ rest) → make_tree L s (places q) make ps ≡ Some t → depths ps ≤ room → length ts ≤ n
          → read_all L size (reader q) n make ts ≡ Ok (t, suc k, rest)
      only_all s q zero k make ps ts rest t a e d l = let i : length ((k, closing) ∷ rest) ≤ length ts = all_shorter ps ts _ a in absurd (omega arith)
      only_all s q (suc n) k make ps ts rest t last_spells e d l = cc
      only_all s q (suc n) k make ps ts rest t (more_spells {n = m} {p = p} {ps = ps'} {mid = mid} a as1) e d l =
          let b : (x : L.Tree q) × (meant L q p ≡ Some x) × (make_tree L s (places q) (λ xs. make (x ∷ xs)) ps' ≡ Some t) = some_bind (meant L q p) _ t e in
          let r : reader q ts ≡ Ok (b.0, m, mid) = h q p ts m mid b.0 a b.1 (omega arith) in
          let c : length mid < length ts = shorter p ts m mid a in
          read_all_spelled size (reader q) n make p ts m mid a
          ∙ rw r (only_all s q n k (λ xs. make (b.0 ∷ xs)) ps' mid rest t as1 b.2 (omega arith) (omega arith))

      only_parts : (s : L.Sort) (k : ℕ) (qs : Places L.Sort) (make : Maker L.Tree qs (L.Tree s)) (ps : Sexprs) (ts rest : List PlacedToken) (t : L.Tree s)
          → SpellAll ps ts ((k, closing) ∷ rest) → make_tree L s qs make ps ≡ Some t → depths ps ≤ room
          → read_parts L size reader room qs make ts ≡ Ok (t, suc k, rest)
      only_parts s k no_place make ps ts rest t last_spells e d = cc
      only_parts s k no_place make ps ts rest t (more_spells a as1) e d = absurd (cc)
      only_parts s k (place q qs) make ps ts rest t last_spells e d = absurd (cc)
      only_parts s k (place q qs) make ps ts rest t (more_spells {n = m} {p = p} {ps = ps'} {mid = mid} a as1) e d =
          let b : (x : L.Tree q) × (meant L q p ≡ Some x) × (make_tree L s qs (make x) ps' ≡ Some t) = some_bind (meant L q p) _ t e in
          let r : reader q ts ≡ Ok (b.0, m, mid) = h q p ts m mid b.0 a b.1 (omega arith) in
          rw r (only_parts s k qs (make b.0) ps' mid rest t as1 b.2 (omega arith))
      only_parts s k (places q) make ps ts rest t a e d = only_all s q (length ts) k make ps ts rest t a e d (omega arith)

      only_production : (s : L.Sort) (m k : ℕ) (ps : Sexprs) (ts rest : List PlacedToken) (t : L.Tree s) (r : Option (Production L.Sort L.Tree (L.Tree s)))
          → SpellAll ps ts ((k, closing) ∷ rest) → option_and_then (λ z. make_tree L s z.takes z.makes ps) r ≡ Some t → depths ps ≤ room
          → read_production L size reader room m r ts ≡ Ok (t, suc k, rest)
      only_production s m k ps ts rest t None a e d = absurd (cc)
      only_production s m k ps ts rest t (Some r) a e d = only_parts s k r.takes r.makes ps ts rest t a e d

      only_opened : (s : L.Sort) (b : Bool) (n m k : ℕ) (w : List ℕ) (ps : Sexprs) (ts rest : List PlacedToken) (t : L.Tree s) → L.has_form s ≡ b
          → SpellAll ps ts ((k, closing) ∷ rest) → meant L s (form w ps) ≡ Some t → depths ps ≤ room
          → (if b then read_form L size reader room s ((m, word w) ∷ ts) else Err (Syntax n)) ≡ Ok (t, suc k, rest)
      only_opened s true n m k w ps ts rest t f a e d = only_production s m k ps ts rest t (L.production_at s w) a e d
      only_opened s false n m k w ps ts rest t f a e d =
          absurd (formless_means s w ps t f e)

    pub only_word : (s : L.Sort) (n : ℕ) (w : List ℕ) (ts : List PlacedToken) (t : L.Tree s) (r : WordReading (L.Tree s)) → read_word r ≡ Some t
        → word_read n w ts r ≡ Ok (t, n + length w, ts)
    only_word s n w ts t (reads x) e = cc
    only_word s n w ts t misspelt e = absurd (cc)
    only_word s n w ts t unfit e = absurd (cc)

    pub only : (size room : ℕ) (s : L.Sort) (p : Sexpr) (ts : List PlacedToken) (n : ℕ) (rest : List PlacedToken) (t : L.Tree s) → Spells p ts n rest
        → meant L s p ≡ Some t → depth p ≤ room → read L size room s ts ≡ Ok (t, n, rest)
    only size zero s p ts n rest t (atom_spells {n = n'} {w = w}) e d = only_word s n' w rest t (L.word_at s w) e
    only size (suc room) s p ts n rest t (atom_spells {n = n'} {w = w}) e d = only_word s n' w rest t (L.word_at s w) e
    only size zero s p ts n rest t (form_spells h) e d = absurd (omega arith)
    only size (suc room) s p ts n rest t (form_spells {n = n'} {m = m} {k = k} {w = w} {ps = ps} {ts = ts'} h) e d =
        only_opened size room (read L size room) (only size room) s (L.has_form s) n' m k w ps ts' rest t refl h e (omega arith)
