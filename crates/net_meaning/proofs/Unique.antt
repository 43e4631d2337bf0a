-- A network has one output type at an input type.
use Rattle.std.proofs.Common.{◌≡◌, ℕ, ◌≤◌, List, refl, sym, ap, subst, arith}
use Rattle.net_tree.specs.Network.{Network, Networks}
use Rattle.sample_core.specs.TypeTree.{TypeTree, unit_ty, int_ty, pair_ty, event_ty, list_ty}
use Rattle.net_meaning.specs.Typing.{Arrow, OldAt, old_here, old_after, members, LeafTyping, Typed, AllTyped, arr_typed, seq_typed, first_typed, par_typed, loop_typed, i_pre_typed, delay_typed, hold_typed, accum_typed, after_typed, repeatedly_typed, time_typed, integral_typed, switch_typed, r_switch_typed, k_switch_typed, p_switch_typed, old_typed, initial_out_typed, initial_in_typed, rp_switch_typed, no_members_typed, and_member_typed}

old_unique : (Os : List Arrow) (k : ℕ) (o q : Arrow) → OldAt Os k o → OldAt Os k q → o ≡ q
old_unique Os k o q old_here old_here = refl
old_unique Os k o q (old_after {Os = Os'} {k = k'} i) (old_after j) = old_unique Os' k' o q i j

abbrev pair_left : TypeTree → TypeTree
pair_left (pair_ty A B) = A
pair_left A = A

module _ {L : Type 0} (T : LeafTyping L) {M : TypeTree → Type 0} (lu : (e : L) (Ps : List TypeTree) (A B C : TypeTree) → T e Ps A B → T e Ps A C → B ≡ C) where
  mutual
    pub unique : (Ps : List TypeTree) (Os : List Arrow) (net : Network L) (A B B' : TypeTree) → Typed T M Ps Os net A B → Typed T M Ps Os net A B' → B ≡ B'
    unique Ps Os net A B B' (arr_typed {e = e} h) (arr_typed k) = lu e Ps A B B' h k
    unique Ps Os net A B B' (seq_typed {f = f} {g = g} {B = X} df dg) (seq_typed {B = Y} kf kg) =
        unique Ps Os g X B B' dg (subst (λ Z. Typed T M Ps Os g Z B') (sym (unique Ps Os f A X Y df kf)) kg)
    unique Ps Os net A B B' (first_typed {f = f} {A = X} {B = Y} {C = C} df m) (first_typed {B = Z} kf n) = ap (λ W. pair_ty W C) (unique Ps Os f X Y Z df kf)
    unique Ps Os net A B B' (par_typed {fs = fs} {B = X} some l ds m) (par_typed {B = Y} some' l' ks n) = ap list_ty (all_unique Ps Os fs A X Y some ds ks)
    unique Ps Os net A B B' (loop_typed {c = c} {f = f} {C = C} h m df) (loop_typed {C = D} k n kf) =
        ap pair_left
        (unique Ps Os f (pair_ty A C) (pair_ty B C) (pair_ty B' C) df
        (subst (λ Z. Typed T M Ps Os f (pair_ty A Z) (pair_ty B' Z)) (sym (lu c Ps unit_ty C D h k)) kf))
    unique Ps Os net A B B' (i_pre_typed h) (i_pre_typed k) = refl
    unique Ps Os net A B B' (delay_typed a b h) (delay_typed c d k) = refl
    unique Ps Os net A B B' (hold_typed h) (hold_typed k) = refl
    unique Ps Os net A B B' (accum_typed {z = z} {Z = X} hz m hg n) (accum_typed {Z = Y} kz m' kg n') = ap event_ty (lu z Ps unit_ty X Y hz kz)
    unique Ps Os net A B B' (after_typed {c = c} {C = C} a h m) (after_typed {C = D} b k n) = ap event_ty (lu c Ps unit_ty C D h k)
    unique Ps Os net A B B' (repeatedly_typed {c = c} {C = C} a b h m) (repeatedly_typed {C = D} a' b' k n) = ap event_ty (lu c Ps unit_ty C D h k)
    unique Ps Os net A B B' time_typed time_typed = refl
    unique Ps Os net A B B' integral_typed integral_typed = refl
    unique Ps Os net A B B' (switch_typed {f = f} {C = C} df dt) (switch_typed {C = D} kf kt) =
        ap pair_left (unique Ps Os f A (pair_ty B (event_ty C)) (pair_ty B' (event_ty D)) df kf)
    unique Ps Os net A B B' (r_switch_typed {f = f} {D = D} df dt) (r_switch_typed kf kt) = unique Ps Os f D B B' df kf
    unique Ps Os net A B B' (k_switch_typed {f = f} df m de dt) (k_switch_typed kf n ke kt) = unique Ps Os f A B B' df kf
    unique Ps Os net A B B' (p_switch_typed {r = r} {fs = fs} {B = X} {D = D} some l m h ds n de dt)
        (p_switch_typed {B = Y} {D = E} some' l' m' k ks n' ke kt) =
        ap list_ty (all_unique Ps Os fs D X Y some ds (subst (λ Z. AllTyped T M Ps Os fs Z Y) (sym (lu r Ps (pair_ty A int_ty) D E h k)) ks))
    unique Ps Os net A B B' (old_typed {k = n} i) (old_typed j) =
        ap (λ o. o.output) (old_unique Os n (record { input = A; output = B }) (record { input = A; output = B' }) i j)
    unique Ps Os net A B B' (initial_out_typed {f = f} h df) (initial_out_typed k kf) = unique Ps Os f A B B' df kf
    unique Ps Os net A B B' (initial_in_typed {f = f} h df) (initial_in_typed k kf) = unique Ps Os f A B B' df kf
    unique Ps Os net A B B' (rp_switch_typed {fs = fs} {D = D} {B = X} some l ds h dt m) (rp_switch_typed {B = Y} some' l' ks k kt n) =
        ap list_ty (all_unique Ps Os fs D X Y some ds ks)

    pub all_unique : (Ps : List TypeTree) (Os : List Arrow) (fs : Networks L) (A B B' : TypeTree) → 1 ≤ members fs → AllTyped T M Ps Os fs A B
        → AllTyped T M Ps Os fs A B' → B ≡ B'
    all_unique Ps Os fs A B B' some no_members_typed k = absurd (omega arith)
    all_unique Ps Os fs A B B' some (and_member_typed {f = f} df ds) (and_member_typed kf ks) = unique Ps Os f A B B' df kf
