-- Where the network has a type within the limits, the walk answers it.
use Rattle.std.proofs.Common.{◌≡◌, ℕ, suc, List, [], ◌∷◌, ◌++◌, Ok, refl, ap, ◌^◌, ◌≤◌, arith}
use Rattle.net_tree.specs.Network.{Network, Networks, no_members, and_member}
use Rattle.sample_core.specs.TypeTree.{TypeTree, unit_ty, int_ty, pair_ty, event_ty, list_ty}
use Rattle.net_meaning.specs.Typing.{Arrow, LeafTyping, copies, members, Typed, AllTyped, arr_typed, seq_typed, first_typed, par_typed, loop_typed, i_pre_typed, delay_typed, hold_typed, accum_typed, after_typed, repeatedly_typed, time_typed, integral_typed, switch_typed, r_switch_typed, k_switch_typed, p_switch_typed, old_typed, initial_out_typed, initial_in_typed, rp_switch_typed, no_members_typed, and_member_typed}
use Rattle.leaf_core.specs.TypeLimits.{TypeFits}
use Rattle.net_types.specs.Walk.{LeafChecker, ◌↓◌, all_same, one_output, leaf_fault_at, leaf, walk, walk_all}
use Rattle.net_types.proofs.WalkTests.{goes_on, within_passes, same_passes, between_passes, counted_passes, frozen_passes, IsExact}

-- as many copies of B as there are members
abbrev pub outputs : {L : Type 0} → Networks L → TypeTree → List TypeTree
outputs no_members B = []
outputs (and_member f fs) B = B ∷ outputs fs B

all_same_passes : {L : Type 0} (P : List ℕ) (k : ℕ) (B : TypeTree) (fs : Networks L) → all_same P k B (outputs fs B) ≡ Ok B
all_same_passes P k B no_members = refl
all_same_passes P k B (and_member f fs) = goes_on _ (same_passes (P ↓ k) B) (all_same_passes P (suc k) B fs)

pub one_output_passes : {L : Type 0} (P : List ℕ) (k : ℕ) (B : TypeTree) (fs : Networks L) → 1 ≤ members fs → one_output P k (outputs fs B) ≡ Ok B
one_output_passes P k B no_members h = absurd (omega arith)
one_output_passes P k B (and_member f fs) h = all_same_passes P (suc k) B fs

module _ {L : Type 0} (t : LeafChecker L) (T : LeafTyping L) (ex : IsExact t T) where
  leaf_passes : (P : List ℕ) (Ps : List TypeTree) (A : TypeTree) (e : L) (B : TypeTree) → T e Ps A B → leaf t P Ps A e ≡ Ok B
  leaf_passes P Ps A e B h = ap (leaf_fault_at P) ((ex e Ps A B).1 h)

  mutual
    pub complete : (P : List ℕ) (Ps : List TypeTree) (Os : List Arrow) (A : TypeTree) (net : Network L) (B : TypeTree) → Typed T TypeFits Ps Os net A B
        → walk t P Ps Os A net ≡ Ok B
    complete P Ps Os A net B (arr_typed {e = e} h) = leaf_passes (P ↓ 0) Ps A e B h
    complete P Ps Os A net B (seq_typed {f = f} {g = g} {B = C} d k) = goes_on _ (complete (P ↓ 0) Ps Os A f C d) (complete (P ↓ 1) Ps Os C g B k)
    complete P Ps Os A net B (first_typed {f = f} {A = D} {B = E} {C = C} d w) = goes_on _ (complete (P ↓ 0) Ps Os D f E d) (within_passes (pair_ty E C) w)
    complete P Ps Os A net B (par_typed {fs = fs} {B = C} n l ds w) =
        goes_on _ (counted_passes P fs n l)
        (goes_on _ (all_complete P 0 Ps Os A fs C ds) (goes_on _ (one_output_passes P 0 C fs n) (within_passes (list_ty C) w)))
    complete P Ps Os A net B (loop_typed {c = c} {f = f} {C = C} h w d) =
        goes_on _ (leaf_passes (P ↓ 0) Ps unit_ty c C h)
        (goes_on _ (within_passes (pair_ty A C) w)
        (goes_on _ (complete (P ↓ 1) Ps Os (pair_ty A C) f (pair_ty B C) d) (goes_on _ (same_passes (P ↓ 1) C) refl)))
    complete P Ps Os A net B (i_pre_typed {c = c} h) = goes_on _ (leaf_passes (P ↓ 0) Ps unit_ty c A h) (same_passes P A)
    complete P Ps Os A net B (delay_typed {q = q} {c = c} n l h) =
        goes_on _ (between_passes P 1 4096 q n l) (goes_on _ (leaf_passes (P ↓ 0) Ps unit_ty c A h) (same_passes P A))
    complete P Ps Os A net B (hold_typed {c = c} h) = goes_on _ (leaf_passes (P ↓ 0) Ps unit_ty c B h) (same_passes P B)
    complete P Ps Os A net B (accum_typed {g = g} {z = z} {V = V} {Z = Z} h w k v) =
        goes_on _ (leaf_passes (P ↓ 1) Ps unit_ty z Z h)
        (goes_on _ (within_passes (pair_ty Z V) w)
        (goes_on _ (leaf_passes (P ↓ 0) Ps (pair_ty Z V) g Z k) (goes_on _ (same_passes P Z) (within_passes (event_ty Z) v))))
    complete P Ps Os A net B (after_typed {q = q} {c = c} {C = C} l h w) =
        goes_on _ (between_passes P 0 (2 ^ 62) q (omega arith) l) (goes_on _ (leaf_passes (P ↓ 0) Ps unit_ty c C h) (within_passes (event_ty C) w))
    complete P Ps Os A net B (repeatedly_typed {q = q} {c = c} {C = C} n l h w) =
        goes_on _ (between_passes P 1 (2 ^ 62) q n l) (goes_on _ (leaf_passes (P ↓ 0) Ps unit_ty c C h) (within_passes (event_ty C) w))
    complete P Ps Os A net B time_typed = refl
    complete P Ps Os A net B integral_typed = refl
    complete P Ps Os A net B (switch_typed {f = f} {t = n} {C = C} d k) =
        goes_on _ (complete (P ↓ 0) Ps Os A f (pair_ty B (event_ty C)) d) (goes_on _ (complete (P ↓ 1) (Ps ++ C ∷ []) Os A n B k) (same_passes (P ↓ 1) B))
    complete P Ps Os A net B (r_switch_typed {f = f} {t = n} {D = D} {C = C} d k) =
        goes_on _ (complete (P ↓ 0) Ps Os D f B d) (goes_on _ (complete (P ↓ 1) (Ps ++ C ∷ []) Os D n B k) (same_passes (P ↓ 1) B))
    complete P Ps Os A net B (k_switch_typed {f = f} {e = e} {t = n} {C = C} d w h k) =
        goes_on _ (complete (P ↓ 0) Ps Os A f B d)
        (goes_on _ (within_passes (pair_ty A B) w)
        (goes_on _ (complete (P ↓ 1) Ps Os (pair_ty A B) e (event_ty C) h)
        (goes_on _ (complete (P ↓ 2) (Ps ++ C ∷ []) (Os ++ record { input = A; output = B } ∷ []) A n B k) (same_passes (P ↓ 2) B))))
    complete P Ps Os A net B (p_switch_typed {r = r} {fs = fs} {e = e} {t = n} {B = G} {C = C} {D = D} c l w h ds v d k) =
        goes_on _ (counted_passes P fs c l)
        (goes_on _ (within_passes (pair_ty A int_ty) w)
        (goes_on _ (leaf_passes (P ↓ 0) Ps (pair_ty A int_ty) r D h)
        (goes_on _ (all_complete P 1 Ps Os D fs G ds)
        (goes_on _ (one_output_passes P 1 G fs c)
        (goes_on _ (within_passes (pair_ty A (list_ty G)) v)
        (goes_on _ (complete (P ↓ suc (members fs)) Ps Os (pair_ty A (list_ty G)) e (event_ty C) d)
        (goes_on _ (complete (P ↓ suc (suc (members fs))) (Ps ++ C ∷ []) (Os ++ copies (members fs) (record { input = D; output = G })) A n (list_ty G) k)
        (same_passes (P ↓ suc (suc (members fs))) (list_ty G)))))))))
    complete P Ps Os A net B (old_typed {k = k} i) = goes_on _ (frozen_passes P Os k (record { input = A; output = B }) i) (goes_on _ (same_passes P A) refl)
    complete P Ps Os A net B (initial_out_typed {c = c} {f = f} h d) =
        goes_on _ (leaf_passes (P ↓ 0) Ps unit_ty c B h) (goes_on _ (complete (P ↓ 1) Ps Os A f B d) (same_passes P B))
    complete P Ps Os A net B (initial_in_typed {c = c} {f = f} h d) =
        goes_on _ (leaf_passes (P ↓ 0) Ps unit_ty c A h) (goes_on _ (same_passes P A) (complete (P ↓ 1) Ps Os A f B d))
    complete P Ps Os A net B (rp_switch_typed {fs = fs} {m = m} {t = n} {D = D} {B = G} {C = C} {V = V} c l ds h k w) =
        goes_on _ (counted_passes P fs c l)
        (goes_on _ (all_complete P 0 Ps Os D fs G ds)
        (goes_on _ (one_output_passes P 0 G fs c)
        (goes_on _ (leaf_passes (P ↓ members fs) Ps C m (pair_ty (list_ty int_ty) (list_ty V)) h)
        (goes_on _ (complete (P ↓ suc (members fs)) (Ps ++ V ∷ []) Os D n G k)
        (goes_on _ (same_passes (P ↓ suc (members fs)) G) (within_passes (list_ty G) w))))))

    pub all_complete : (P : List ℕ) (k : ℕ) (Ps : List TypeTree) (Os : List Arrow) (A : TypeTree) (fs : Networks L) (B : TypeTree)
        → AllTyped T TypeFits Ps Os fs A B → walk_all t P k Ps Os A fs ≡ Ok (outputs fs B)
    all_complete P k Ps Os A fs B no_members_typed = refl
    all_complete P k Ps Os A fs B (and_member_typed {f = f} {fs = gs} d ds) =
        goes_on _ (complete (P ↓ k) Ps Os A f B d) (goes_on _ (all_complete P (suc k) Ps Os A gs B ds) refl)
