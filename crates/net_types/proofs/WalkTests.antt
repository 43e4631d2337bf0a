-- What the walk's tests tell where they pass, and where they do.
use Rattle.std.proofs.Common.{◌≡◌, ◌∙◌, ℕ, zero, suc, ◌≤◌, Bool, true, false, cond, ◌&&◌, leb, List, [], ◌∷◌, Result, Ok, Err, ◌↔◌, refl, sym, ap, subst, le-leb, leb-true}
use Rattle.net_tree.specs.Network.{Networks}
use Rattle.sample_core.specs.TypeTree.{TypeTree, depth_of, nodes_of, int_ty, pair_ty, event_ty, list_ty}
use Rattle.sample_core.proofs.Numbers.{parts_of}
use Rattle.net_meaning.specs.Typing.{Arrow, OldAt, old_here, old_after, members, LeafTyping}
use Rattle.leaf_core.specs.TypeLimits.{TypeFits, type_fits, same_tree}
use Rattle.net_types.specs.declared.fault.TypeFault.{TypeFault}
use Rattle.net_types.specs.declared.fault.TypeFault.TheVariants as Fault
use Rattle.net_types.specs.Walk.{LeafChecker, ◌>>=◌, ◌>>◌, test, within, expect_same, as_pair, as_event, as_choice, test_range, test_members, old_at}
use Rattle.leaf_core.proofs.Exactness.{same_tree-true, same_tree-refl}

-- the checker finds a leaf's type, and answers no other
abbrev pub IsExact : {L : Type 0} → LeafChecker L → LeafTyping L → Type 0
IsExact t T = (e : _) (Ps : List TypeTree) (A B : TypeTree) → (t e Ps A ≡ Ok B) ↔ T e Ps A B

-- where there is an answer it has P
pub data Holds {A : Type 0} (P : A → Type 0) : Result A TypeFault → Type 0 where
  ok_holds : {a : A} → P a → Holds P (Ok a)
  err_holds : {f : TypeFault} → Holds P (Err f)

pub holding : {A : Type 0} {P : A → Type 0} {r : Result A TypeFault} {a : A} → Holds P r → r ≡ Ok a → P a
holding {A = A} {P = P} (ok_holds {a = b} p) e = subst P (ap got e) p
  where
    got : Result A TypeFault → A
    got (Ok c) = c
    got (Err f) = b
holding err_holds e = absurd (cc)

pub next : {A B : Type 0} {P : A → Type 0} {Q : B → Type 0} {r : Result A TypeFault} {k : A → Result B TypeFault} → Holds P r → ((a : A) → P a → Holds Q (k a))
    → Holds Q (r >>= k)
next (ok_holds {a = a} p) s = s a p
next err_holds s = err_holds

pub weaker : {A : Type 0} {P Q : A → Type 0} {r : Result A TypeFault} → Holds P r → ((a : A) → P a → Q a) → Holds Q r
weaker (ok_holds {a = a} p) s = ok_holds (s a p)
weaker err_holds s = err_holds

pub goes_on : {A B : Type 0} {r : Result A TypeFault} (k : A → Result B TypeFault) {a : A} {b : B} → r ≡ Ok a → k a ≡ Ok b → (r >>= k) ≡ Ok b
goes_on k e d = ap (λ r. r >>= k) e ∙ d

pub faults_on : {A B : Type 0} {r : Result A TypeFault} (k : A → Result B TypeFault) {a : A} {f : TypeFault} → r ≡ Ok a → k a ≡ Err f → (r >>= k) ≡ Err f
faults_on k e d = ap (λ r. r >>= k) e ∙ d

pub stops : {A B : Type 0} {r : Result A TypeFault} (k : A → Result B TypeFault) {f : TypeFault} → r ≡ Err f → (r >>= k) ≡ Err f
stops k e = ap (λ r. r >>= k) e

-- what has P at either answer has it at the one that is chosen
pub either : {A : Type 0} (P : Result A TypeFault → Type 0) (b : Bool) {r s : Result A TypeFault} → P r → P s → P (cond b r s)
either P true h k = h
either P false h k = k

pub both : {a b : Bool} → a ≡ true → b ≡ true → (a && b) ≡ true
both {b = b} d e = ap (λ c. c && b) d ∙ e

pub type_fits-TypeFits : (A : TypeTree) → type_fits A ≡ true → TypeFits A
type_fits-TypeFits A e = let h : (leb (depth_of A) 32 ≡ true) × (leb (nodes_of A) 256 ≡ true) = parts_of (leb (depth_of A) 32) (leb (nodes_of A) 256) e in
    record { shallow = leb-true (depth_of A) 32 h.0; small = leb-true (nodes_of A) 256 h.1 }

pub TypeFits-type_fits : (A : TypeTree) → TypeFits A → type_fits A ≡ true
TypeFits-type_fits A h = both (le-leb (depth_of A) 32 h.shallow) (le-leb (nodes_of A) 256 h.small)

in_range : (low high n : ℕ) → (leb low n && leb n high) ≡ true → (low ≤ n) × (n ≤ high)
in_range low high n e = let h : (leb low n ≡ true) × (leb n high ≡ true) = parts_of (leb low n) (leb n high) e in (leb-true low n h.0, leb-true n high h.1)

range_in : (low high n : ℕ) → low ≤ n → n ≤ high → (leb low n && leb n high) ≡ true
range_in low high n h k = both (le-leb low n h) (le-leb n high k)

-- a passed test
pub tested : (b : Bool) (f : TypeFault) → Holds (λ u. b ≡ true) (test b f)
tested true f = ok_holds refl
tested false f = err_holds

pub passes : {b : Bool} (f : TypeFault) → b ≡ true → test b f ≡ Ok tt
passes f e = ap (λ c. test c f) e

pub within_tells : (A : TypeTree) → Holds (λ B. (A ≡ B) × TypeFits A) (within A)
within_tells A = next (tested (type_fits A) Fault.TooDeep) (λ u e. ok_holds (refl, type_fits-TypeFits A e))

pub within_passes : (A : TypeTree) → TypeFits A → within A ≡ Ok A
within_passes A h = goes_on _ (passes Fault.TooDeep (TypeFits-type_fits A h)) refl

pub same_tells : (P : List ℕ) (A B : TypeTree) → Holds (λ C. (A ≡ C) × (B ≡ A)) (expect_same P A B)
same_tells P A B = next (tested (same_tree A B) (Fault.Joint P)) (λ u e. ok_holds (refl, sym (same_tree-true A B e)))

pub same_passes : (P : List ℕ) (A : TypeTree) → expect_same P A A ≡ Ok A
same_passes P A = goes_on _ (passes (Fault.Joint P) (same_tree-refl A)) refl

pub same_at_equal : (P : List ℕ) (A B : TypeTree) → A ≡ B → expect_same P A B ≡ Ok B
same_at_equal P A B e = subst (λ Z. expect_same P A Z ≡ Ok Z) e (same_passes P A)

pub same_at_other : (P : List ℕ) (A B : TypeTree) → (A ≡ B → ⊥) → expect_same P A B ≡ Err (Fault.Joint P)
same_at_other P A B n = go (same_tree A B) refl
  where
    go : (b : Bool) → same_tree A B ≡ b → expect_same P A B ≡ Err (Fault.Joint P)
    go true e = absurd (n (same_tree-true A B e))
    go false e = ap (λ b. test b (Fault.Joint P) >> Ok A) e

pub pair_tells : (P : List ℕ) (A : TypeTree) → Holds (λ q. A ≡ pair_ty q.0 q.1) (as_pair P A)
pair_tells P (pair_ty A B) = ok_holds refl
pair_tells P _ = err_holds

pub event_tells : (P : List ℕ) (A : TypeTree) → Holds (λ C. A ≡ event_ty C) (as_event P A)
event_tells P (event_ty A) = ok_holds refl
event_tells P _ = err_holds

pub choice_tells : (P : List ℕ) (A : TypeTree) → Holds (λ V. A ≡ pair_ty (list_ty int_ty) (list_ty V)) (as_choice P A)
choice_tells P (pair_ty (list_ty int_ty) (list_ty V)) = ok_holds refl
choice_tells P _ = err_holds

pub between_tells : (P : List ℕ) (low high q : ℕ) → Holds (λ u. (low ≤ q) × (q ≤ high)) (test_range P low high q)
between_tells P low high q = weaker (tested (leb low q && leb q high) (Fault.Number P)) (λ u e. in_range low high q e)

pub between_passes : (P : List ℕ) (low high q : ℕ) → low ≤ q → q ≤ high → test_range P low high q ≡ Ok tt
between_passes P low high q h k = passes (Fault.Number P) (range_in low high q h k)

pub counted_tells : {L : Type 0} (P : List ℕ) (fs : Networks L) → Holds (λ u. (1 ≤ members fs) × (members fs ≤ 64)) (test_members P fs)
counted_tells P fs = weaker (tested (leb 1 (members fs) && leb (members fs) 64) (Fault.Members P)) (λ u e. in_range 1 64 (members fs) e)

pub counted_passes : {L : Type 0} (P : List ℕ) (fs : Networks L) → 1 ≤ members fs → members fs ≤ 64 → test_members P fs ≡ Ok tt
counted_passes P fs h k = passes (Fault.Members P) (range_in 1 64 (members fs) h k)

pub counted_fails : {L : Type 0} (P : List ℕ) (fs : Networks L) → (1 ≤ members fs → members fs ≤ 64 → ⊥) → test_members P fs ≡ Err (Fault.Members P)
counted_fails P fs h = go (leb 1 (members fs) && leb (members fs) 64) refl
  where
    go : (b : Bool) → (leb 1 (members fs) && leb (members fs) 64) ≡ b → test b (Fault.Members P) ≡ Err (Fault.Members P)
    go true e = let r = in_range 1 64 (members fs) e in absurd (h r.0 r.1)
    go false e = refl

pub frozen_tells : (P : List ℕ) (Os : List Arrow) (k : ℕ) → Holds (λ o. OldAt Os k o) (old_at P Os k)
frozen_tells P [] k = err_holds
frozen_tells P (o ∷ Os) zero = ok_holds old_here
frozen_tells P (o ∷ Os) (suc k) = weaker (frozen_tells P Os k) (λ q i. old_after i)

pub frozen_passes : (P : List ℕ) (Os : List Arrow) (k : ℕ) (o : Arrow) → OldAt Os k o → old_at P Os k ≡ Ok o
frozen_passes P Os k o old_here = refl
frozen_passes P Os k o (old_after {Os = Os'} {k = j} i) = frozen_passes P Os' j o i
