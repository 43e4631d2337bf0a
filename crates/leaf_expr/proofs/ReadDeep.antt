-- A tree that opens more parentheses than there may be is refused for a parenthesis.
use Rattle.std.proofs.Common.{◌≡◌, ℕ, zero, suc, ◌≤◌, ◌<◌, Bool, true, false, if◌then◌else◌, List, ◌∷◌, length, refl, sym, ap, ◌∙◌, subst, arith, Option, Some, None, Ok, Err}
use Rattle.std.specs.Prelude.{option_and_then}
use Rattle.leaf_expr.specs.Token.{closing, word, PlacedToken}
use Rattle.leaf_expr.specs.Sexpr.{Sexpr, Sexprs, form, Spells, SpellAll, atom_spells, form_spells, last_spells, more_spells}
use Rattle.leaf_expr.specs.Language.{Language, Places, Maker, Production, no_place, place, places, meant, make_tree}
use Rattle.leaf_expr.specs.TreeReader.{Read, read_all, read_parts, read_production, read_form, read}
use Rattle.leaf_expr.proofs.Proper.{Proper}
use Rattle.leaf_expr.proofs.ReadOnly.{shorter, all_shorter, some_bind, read_all_spelled, formless_means, only_word}
use Rattle.sample_core.specs.Answer.{◌>>=◌}
use Rattle.leaf_expr.specs.declared.text_fault.ExprTextFault.TheVariants.{Syntax, TooDeep}

-- y was read, or a parenthesis is one too many
pub data ReadOrDeep {T : Type 0} (r : Read T) (y : T × ℕ × List PlacedToken) : Type 0 where
  is_read : r ≡ Ok y → ReadOrDeep r y
  is_deep : (k : ℕ) → r ≡ Err (TooDeep k) → ReadOrDeep r y

then_deep : {A B : Type 0} (r : Read A) (x : A × ℕ × List PlacedToken) (g : A × ℕ × List PlacedToken → Read B) (y : B × ℕ × List PlacedToken)
    → ReadOrDeep r x → ReadOrDeep (g x) y → ReadOrDeep (r >>= g) y
then_deep r x g y (is_read e) (is_read f) = is_read (ap (λ z. z >>= g) e ∙ f)
then_deep r x g y (is_read e) (is_deep k f) = is_deep k (ap (λ z. z >>= g) e ∙ f)
then_deep r x g y (is_deep k e) h = is_deep k (ap (λ z. z >>= g) e)

module _ (L : Language) (proper : Proper L) where
  module _ (size room : ℕ) (reader : (s : L.Sort) → List PlacedToken
      → Read (L.Tree s)) (h : (s : L.Sort) (p : Sexpr) (ts : List PlacedToken) (n : ℕ) (rest : List PlacedToken) (t : L.Tree s) → Spells p ts n rest
      → meant L s p ≡ Some t → ReadOrDeep (reader s ts) (t, n, rest)) where
    deep_all : (s : L.Sort) (q : L.Sort) (n k : ℕ) (make : List (L.Tree q) → L.Tree s) (ps : Sexprs) (ts rest : List PlacedToken) (t : L.Tree s)
        → SpellAll ps ts ((k, closing) ∷ rest) → make_tree L s (places q) make ps ≡ Some t → length ts ≤ n
        → ReadOrDeep (read_all L size (reader q) n make ts) (t, suc k, rest)
    deep_all s q zero k make ps ts rest t a e l = let i : length ((k, closing) ∷ rest) ≤ length ts = all_shorter ps ts _ a in absurd (omega arith)
    deep_all s q (suc n) k make ps ts rest t last_spells e l = is_read (cc)
    deep_all s q (suc n) k make ps ts rest t (more_spells {n = m} {p = p} {ps = qs} {mid = mid} a as1) e l =
        let b : (x : L.Tree q) × (meant L q p ≡ Some x) × (make_tree L s (places q) (λ xs. make (x ∷ xs)) qs ≡ Some t) = some_bind (meant L q p) _ t e in
        let c : length mid < length ts = shorter p ts m mid a in
        subst (λ r. ReadOrDeep r (t, suc k, rest)) (sym (read_all_spelled L size (reader q) n make p ts m mid a))
        (then_deep (reader q ts) (b.0, m, mid) _ (t, suc k, rest) (h q p ts m mid b.0 a b.1)
        (deep_all s q n k (λ xs. make (b.0 ∷ xs)) qs mid rest t as1 b.2 (omega arith)))

    deep_parts : (s : L.Sort) (k : ℕ) (qs : Places L.Sort) (make : Maker L.Tree qs (L.Tree s)) (ps : Sexprs) (ts rest : List PlacedToken) (t : L.Tree s)
        → SpellAll ps ts ((k, closing) ∷ rest) → make_tree L s qs make ps ≡ Some t → ReadOrDeep (read_parts L size reader room qs make ts) (t, suc k, rest)
    deep_parts s k no_place make ps ts rest t last_spells e = is_read (cc)
    deep_parts s k no_place make ps ts rest t (more_spells a as1) e = absurd (cc)
    deep_parts s k (place q qs) make ps ts rest t last_spells e = absurd (cc)
    deep_parts s k (place q qs) make ps ts rest t (more_spells {n = m} {p = p} {ps = us} {mid = mid} a as1) e =
        let b : (x : L.Tree q) × (meant L q p ≡ Some x) × (make_tree L s qs (make x) us ≡ Some t) = some_bind (meant L q p) _ t e in
        then_deep (reader q ts) (b.0, m, mid) _ (t, suc k, rest) (h q p ts m mid b.0 a b.1) (deep_parts s k qs (make b.0) us mid rest t as1 b.2)
    deep_parts s k (places q) make ps ts rest t a e = deep_all s q (length ts) k make ps ts rest t a e (omega arith)

    deep_production : (s : L.Sort) (m k : ℕ) (ps : Sexprs) (ts rest : List PlacedToken) (t : L.Tree s) (r : Option (Production L.Sort L.Tree (L.Tree s)))
        → SpellAll ps ts ((k, closing) ∷ rest) → option_and_then (λ z. make_tree L s z.takes z.makes ps) r ≡ Some t
        → ReadOrDeep (read_production L size reader room m r ts) (t, suc k, rest)
    deep_production s m k ps ts rest t None a e = absurd (cc)
    deep_production s m k ps ts rest t (Some r) a e = deep_parts s k r.takes r.makes ps ts rest t a e

    deep_opened : (s : L.Sort) (b : Bool) (n m k : ℕ) (w : List ℕ) (ps : Sexprs) (ts rest : List PlacedToken) (t : L.Tree s) → L.has_form s ≡ b
        → SpellAll ps ts ((k, closing) ∷ rest) → meant L s (form w ps) ≡ Some t
        → ReadOrDeep (if b then read_form L size reader room s ((m, word w) ∷ ts) else Err (Syntax n)) (t, suc k, rest)
    deep_opened s true n m k w ps ts rest t f a e = deep_production s m k ps ts rest t (L.production_at s w) a e
    deep_opened s false n m k w ps ts rest t f a e = absurd (formless_means L proper s w ps t f e)

  -- whatever a tree opens, it is read, or a parenthesis of it is one too many
  pub read_or_deep : (size room : ℕ) (s : L.Sort) (p : Sexpr) (ts : List PlacedToken) (n : ℕ) (rest : List PlacedToken) (t : L.Tree s) → Spells p ts n rest
      → meant L s p ≡ Some t → ReadOrDeep (read L size room s ts) (t, n, rest)
  read_or_deep size zero s p ts n rest t (atom_spells {n = m} {w = w}) e = is_read (only_word L proper s m w rest t (L.word_at s w) e)
  read_or_deep size (suc room) s p ts n rest t (atom_spells {n = m} {w = w}) e = is_read (only_word L proper s m w rest t (L.word_at s w) e)
  read_or_deep size zero s p ts n rest t (form_spells {n = m} h) e = is_deep m refl
  read_or_deep size (suc room) s p ts n rest t (form_spells {n = i} {m = m} {k = k} {w = w} {ps = ps} {ts = us} h) e =
      deep_opened size room (read L size room) (read_or_deep size room) s (L.has_form s) i m k w ps us rest t refl h e
