-- A part of a network stands in one place.
use Rattle.std.proofs.Common.{◌≡◌, ℕ, ◌≤◌, List, [], ◌∷◌, ◌++◌, refl, sym, ap, subst, ◌∙◌, arith}
use Rattle.sample_core.specs.TypeTree.{TypeTree, unit_ty, int_ty, pair_ty, event_ty, list_ty}
use Rattle.leaf_core.specs.Expression.{Expression}
use Rattle.leaf_core.specs.ExpressionTyping.{ExpressionTyped}
use Rattle.leaf_core.proofs.Uniqueness.{one_type}
use Rattle.net_tree.specs.Network.{Network, Networks, p_switch}
use Rattle.net_meaning.specs.Typing.{Arrow, arrow, copies, members, p_switch_typed}
use Rattle.net_meaning.specs.TypedNetwork.{NetTyped}
use Rattle.net_meaning.specs.NetworkLimits.{NetTypedWithin}
use Rattle.net_syntax.specs.Standing.{Standing, standing, MembersTyped, ChildStands, in_arr, first_in_seq, second_in_seq, in_first, in_par, constant_in_loop, network_in_loop, in_i_pre, in_delay, in_hold, step_in_accum, start_in_accum, in_after, in_repeatedly, network_in_switch, continuation_in_switch, network_in_r_switch, continuation_in_r_switch, network_in_k_switch, event_in_k_switch, continuation_in_k_switch, route_in_p_switch, member_in_p_switch, event_in_p_switch, continuation_in_p_switch, constant_in_initial_out, network_in_initial_out, constant_in_initial_in, network_in_initial_in, member_in_rp_switch, choice_in_rp_switch, continuation_in_rp_switch}
use Rattle.net_meaning.proofs.StreamLaws.{one-output-type}
use Rattle.net_meaning.proofs.Unique.{all_unique}

abbrev carried : TypeTree → TypeTree
carried (pair_ty A (event_ty B)) = B
carried (event_ty B) = B
carried A = A

abbrev started : TypeTree → TypeTree
started (pair_ty A (list_ty B)) = B
started A = A

one_event : {Ps : List TypeTree} {Os : List Arrow} {f : Network Expression} {A B B' C C' : TypeTree} → NetTyped Ps Os f A (pair_ty B (event_ty C))
    → NetTyped Ps Os f A (pair_ty B' (event_ty C')) → C ≡ C'
one_event {Ps = Ps} {Os = Os} {f = f} {A = A} {B = B} {B' = B'} {C = C} {C' = C'} d k =
    ap carried (one-output-type Ps Os f A (pair_ty B (event_ty C)) (pair_ty B' (event_ty C')) d k)

-- a pSwitch has members
abbrev pub Populated : Network Expression → Type 0
Populated (p_switch r fs e t) = 1 ≤ members fs
Populated _ = Unit {0}

pub populated : {Ps : List TypeTree} {Os : List Arrow} {f : Network Expression} {A B : TypeTree} → NetTypedWithin Ps Os f A B → Populated f
populated (p_switch_typed some few w h ds v e t) = some
populated _ = tt

one_output : {Ps : List TypeTree} {Os : List Arrow} {fs : Networks Expression} {D E B C : TypeTree} → 1 ≤ members fs → D ≡ E → MembersTyped Ps Os fs D B
    → MembersTyped Ps Os fs E C → B ≡ C
one_output {Ps = Ps} {Os = Os} {fs = fs} {D = D} {B = B} {C = C} some o ds es =
    all_unique ExpressionTyped one_type Ps Os fs D B C some ds (subst (λ z. MembersTyped Ps Os fs z C) (sym o) es)

pub one_place : {Ps : List TypeTree} {Os : List Arrow} {A : TypeTree} {f : Network Expression} {k j : ℕ} {Q R : Standing} → Populated f → ChildStands Ps Os A f k Q
    → ChildStands Ps Os A f j R → k ≡ j → Q ≡ R
one_place i in_arr in_arr q = refl
one_place i first_in_seq first_in_seq q = refl
one_place {Ps = Ps} {Os = Os} i (second_in_seq {A = A} {B = B} {f = f} d) (second_in_seq {B = C} e) q = ap (standing Ps Os) (one-output-type Ps Os f A B C d e)
one_place i in_first in_first q = refl
one_place i in_par in_par q = refl
one_place i constant_in_loop constant_in_loop q = refl
one_place {Ps = Ps} {Os = Os} i (network_in_loop {A = A} {C = C} {c = c} h) (network_in_loop {C = D} j) q =
    ap (λ z. standing Ps Os (pair_ty A z)) (one_type c Ps unit_ty C D h j)
one_place i in_i_pre in_i_pre q = refl
one_place i in_delay in_delay q = refl
one_place i in_hold in_hold q = refl
one_place {Ps = Ps} {Os = Os} i (step_in_accum {V = V} {Z = Z} {z = z} h) (step_in_accum {Z = Y} j) q = ap (λ t. standing Ps Os (pair_ty t V)) (one_type z Ps unit_ty Z Y h j)
one_place i start_in_accum start_in_accum q = refl
one_place i in_after in_after q = refl
one_place i in_repeatedly in_repeatedly q = refl
one_place i network_in_switch network_in_switch q = refl
one_place {Ps = Ps} {Os = Os} i (continuation_in_switch {A = A} d) (continuation_in_switch e) q = ap (λ z. standing (Ps ++ z ∷ []) Os A) (one_event d e)
one_place i network_in_r_switch network_in_r_switch q = refl
one_place i continuation_in_r_switch continuation_in_r_switch q = refl
one_place i network_in_k_switch network_in_k_switch q = refl
one_place {Ps = Ps} {Os = Os} i (event_in_k_switch {A = A} {B = B} {f = f} d) (event_in_k_switch {B = C} e) q =
    ap (λ z. standing Ps Os (pair_ty A z)) (one-output-type Ps Os f A B C d e)
one_place {Ps = Ps} {Os = Os} i (continuation_in_k_switch {A = A} {B = B} {C = C} {f = f} {e = e} d h) (continuation_in_k_switch {B = B'} {C = C'} d' h') q =
    let b : B ≡ B' = one-output-type Ps Os f A B B' d d' in
    let h'' : NetTyped Ps Os e (pair_ty A B) (event_ty C') = subst (λ z. NetTyped Ps Os e (pair_ty A z) (event_ty C')) (sym b) h' in
    let c : C ≡ C' = ap carried (one-output-type Ps Os e (pair_ty A B) (event_ty C) (event_ty C') h h'') in
    ap (λ z. standing (Ps ++ z ∷ []) (Os ++ arrow A B ∷ []) A) c ∙ ap (λ z. standing (Ps ++ C' ∷ []) (Os ++ arrow A z ∷ []) A) b
one_place i route_in_p_switch route_in_p_switch q = refl
one_place {Ps = Ps} {Os = Os} i (member_in_p_switch {A = A} {D = D} {r = r} h l) (member_in_p_switch {D = E} j m) q =
    ap (standing Ps Os) (one_type r Ps (pair_ty A int_ty) D E h j)
one_place {Ps = Ps} {Os = Os} i (event_in_p_switch {A = A} {B = B} {D = D} {r = r} {fs = fs} h ds) (event_in_p_switch {B = C} {D = E} j es) q =
    ap (λ z. standing Ps Os (pair_ty A (list_ty z))) (one_output i (one_type r Ps (pair_ty A int_ty) D E h j) ds es)
one_place {Ps = Ps} {Os = Os} i (continuation_in_p_switch {A = A} {B = B} {C = C} {D = D} {r = r} {fs = fs} {e = e} h ds d)
    (continuation_in_p_switch {B = B'} {C = C'} {D = D'} h' ds' d') q =
    let o : D ≡ D' = one_type r Ps (pair_ty A int_ty) D D' h h' in
    let b : B ≡ B' = one_output i o ds ds' in
    let d'' : NetTyped Ps Os e (pair_ty A (list_ty B)) (event_ty C') = subst (λ z. NetTyped Ps Os e (pair_ty A (list_ty z)) (event_ty C')) (sym b) d' in
    let c : C ≡ C' = ap carried (one-output-type Ps Os e (pair_ty A (list_ty B)) (event_ty C) (event_ty C') d d'') in
    ap (λ z. standing (Ps ++ z ∷ []) (Os ++ copies (members fs) (arrow D B)) A) c
    ∙ ap (λ z. standing (Ps ++ C' ∷ []) (Os ++ copies (members fs) (arrow z B)) A) o
    ∙ ap (λ z. standing (Ps ++ C' ∷ []) (Os ++ copies (members fs) (arrow D' z)) A) b
one_place i (member_in_p_switch h l) (event_in_p_switch j ds) q = absurd (omega (arith, l))
one_place i (member_in_p_switch h l) (continuation_in_p_switch j ds e) q = absurd (omega (arith, l))
one_place i (event_in_p_switch j ds) (member_in_p_switch h l) q = absurd (omega (arith, l))
one_place i (continuation_in_p_switch j ds e) (member_in_p_switch h l) q = absurd (omega (arith, l))
one_place i constant_in_initial_out constant_in_initial_out q = refl
one_place i network_in_initial_out network_in_initial_out q = refl
one_place i constant_in_initial_in constant_in_initial_in q = refl
one_place i network_in_initial_in network_in_initial_in q = refl
one_place i (member_in_rp_switch l) (member_in_rp_switch u) q = refl
one_place i choice_in_rp_switch choice_in_rp_switch q = refl
one_place {Ps = Ps} {Os = Os} i (continuation_in_rp_switch {D = D} {C = C} {V = V} {m = m} h) (continuation_in_rp_switch {V = W} j) q =
    ap (λ z. standing (Ps ++ started z ∷ []) Os D) (one_type m Ps C (pair_ty (list_ty int_ty) (list_ty V)) (pair_ty (list_ty int_ty) (list_ty W)) h j)
one_place i (member_in_rp_switch l) choice_in_rp_switch q = absurd (omega (arith, l))
one_place i (member_in_rp_switch l) (continuation_in_rp_switch h) q = absurd (omega (arith, l))
one_place i choice_in_rp_switch (member_in_rp_switch l) q = absurd (omega (arith, l))
one_place i (continuation_in_rp_switch h) (member_in_rp_switch l) q = absurd (omega (arith, l))
one_place i c d q = absurd (omega arith)
