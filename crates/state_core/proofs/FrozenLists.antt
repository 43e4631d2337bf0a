-- Frozen networks of the code, and the clean ones.
use Rattle.std.proofs.Common.{◌≡◌, ℕ, zero, suc, List, [], ◌∷◌, ◌++◌, Option, Some, None, refl, sym, ap, ap₂, ◌∙◌, slice_get, Bor, length, take, get_or, ◌<◌, append_assoc, ◌+◌, arith}
use Rattle.std.proofs.lemmas.Option.{slice_get_read, slice_get_past}
use Rattle.std.proofs.Math.Seq.{take-suc}
use Rattle.std.specs.Slice.{IsItemAt}
use Rattle.state_core.specs.State.{no_frozen, and_frozen, append_frozens, frozen_at}
use Rattle.state_core.specs.declared.env.Frozen.{Frozen as CodeFrozen}
use Rattle.state_core.specs.StateView.{frozen_of, frozens_in, frozen_in, IsFrozenAt}

-- frozen networks one list after the other
pub frozens_append : (xs ys : List CodeFrozen) → frozens_in (xs ++ ys) ≡ append_frozens (frozens_in xs) (frozens_in ys)
frozens_append [] ys = refl
frozens_append (x ∷ xs) ys = ap (and_frozen (frozen_of x)) (frozens_append xs ys)

-- frozen network k stands at index k
pub frozen_at_index : (xs : List CodeFrozen) (k : ℕ) → frozen_at (frozens_in xs) k ≡ frozen_in (slice_get xs k)
frozen_at_index [] k = refl
frozen_at_index (x ∷ xs) zero = refl
frozen_at_index (x ∷ xs) (suc k) = frozen_at_index xs k

-- what a look-up at k finds
pub frozen_lent : (xs : List CodeFrozen) (k : ℕ) (r : Option (Bor CodeFrozen)) → IsItemAt xs k r → IsFrozenAt (frozens_in xs) k r
frozen_lent xs k None h = frozen_at_index xs k ∙ ap frozen_in (slice_get_past xs k h.3)
frozen_lent xs k (Some f) h = frozen_at_index xs k ∙ ap frozen_in (slice_get_read xs (length xs) k f.now refl h.3.0 h.1)

-- one more at the end of two lists that are the same as clean ones
one_more : (xs ys : List CodeFrozen) (f g : CodeFrozen) → frozens_in xs ≡ frozens_in ys → frozen_of f ≡ frozen_of g
    → frozens_in (xs ++ f ∷ []) ≡ frozens_in (ys ++ g ∷ [])
one_more xs ys f g e h = frozens_append xs (f ∷ []) ∙ ap₂ (λ a b. append_frozens a (and_frozen b no_frozen)) e h ∙ sym (frozens_append ys (g ∷ []))

-- the items up to i and the one at i
take_one_more : (all : List CodeFrozen) (i : ℕ) (item : CodeFrozen) → i < length all → take (i + 1) all ≡ take i all ++ get_or all i item ∷ []
take_one_more all i item h = let e : i + 1 ≡ suc i = omega arith in ap (λ n. take n all) e ∙ take-suc all i item h

-- a turn of the loop that copies: the copy of the item at i joins the copies of those before it
pub copies_grow : (all : List CodeFrozen) (i : ℕ) (copies now : List CodeFrozen) (item copy : CodeFrozen) → i < length all → item ≡ get_or all i item
    → frozens_in copies ≡ frozens_in (take i all) → frozen_of copy ≡ frozen_of item → now ≡ copies ++ copy ∷ [] → frozens_in now ≡ frozens_in (take (i + 1) all)
copies_grow all i copies now item copy h at e f n = ap frozens_in n ∙ one_more copies (take i all) copy item e f
    ∙ ap (λ x. frozens_in (take i all ++ x ∷ [])) at ∙ ap frozens_in (sym (take_one_more all i item h))

-- the same behind other frozen networks
pub copies_grow_behind : (old all : List CodeFrozen) (i : ℕ) (copies now : List CodeFrozen) (item copy : CodeFrozen) → i < length all → item ≡ get_or all i item
    → frozens_in copies ≡ frozens_in (old ++ take i all) → frozen_of copy ≡ frozen_of item → now ≡ copies ++ copy ∷ []
    → frozens_in now ≡ frozens_in (old ++ take (i + 1) all)
copies_grow_behind old all i copies now item copy h at e f n = ap frozens_in n ∙ one_more copies (old ++ take i all) copy item e f
    ∙ ap frozens_in (append_assoc old (take i all) (item ∷ [])) ∙ ap (λ x. frozens_in (old ++ (take i all ++ x ∷ []))) at
    ∙ ap (λ x. frozens_in (old ++ x)) (sym (take_one_more all i item h))
