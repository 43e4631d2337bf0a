-- Each form does the same where its parts do.
use Rattle.std.proofs.Common.{List, [], ◌∷◌, ◌++◌}
use Rattle.sample_core.specs.TypeTree.{TypeTree, unit_ty, int_ty, pair_ty, event_ty, list_ty}
use Rattle.leaf_core.specs.Expression.{Expression}
use Rattle.leaf_core.specs.ExpressionValue.{value_of}
use Rattle.leaf_core.specs.ExpressionTyping.{ExpressionTyped}
use Rattle.leaf_core.specs.SameValue.{SameValue}
use Rattle.leaf_core.proofs.Soundness.{typed_value}
use Rattle.net_tree.specs.Network.{arr, loop_pre, i_pre, delay, hold, accum_by, after, repeatedly, p_switch}
use Rattle.net_meaning.specs.Typing.{arrow, copies, members}
use Rattle.net_meaning.specs.Sameness.{SameLeaf}
use Rattle.net_meaning.specs.Congruence.{TwinLeaf, ArrLaw, SequenceLaw, FirstLaw, ParallelLaw, LoopLaw, PreviousLaw, DelayLaw, HoldLaw, AccumulateLaw, AfterLaw, RepeatedlyLaw, SameSwitchLaw, SameRestartLaw, SameFreezeLaw, SameFreezeMembersLaw}
use Rattle.net_meaning.proofs.SameNets.{same-arr, same-loop_pre, same-i_pre, same-delay, same-hold, same-accum_by, same-after, same-repeatedly, same-p_switch, same-typed, same-all_typed}
use Rattle.net_meaning.proofs.SameForms.{seq_same, first_same, loop_same, switch_same, r_switch_same, k_switch_same, par_same, p_switch_same, twins_left}
use Rattle.net_meaning.proofs.StreamLaws.{same-outputs}
use Rattle.net_meaning.proofs.SameOutputs.{same-trans}

pub leaf_same : (Ps : List TypeTree) (A B : TypeTree) (e s : Expression) → ExpressionTyped e Ps A B → SameValue Ps A e s → SameLeaf value_of Ps A B e s
leaf_same Ps A B e s d q = record { leaf_same = q; leaf_typed = typed_value e Ps A B d }

twin_leaf : (Ps : List TypeTree) (A B : TypeTree) (e s : Expression) → TwinLeaf Ps A B e s → SameLeaf value_of Ps A B e s
twin_leaf Ps A B e s h = leaf_same Ps A B e s h.one_typed h.same

pub arr_congruent : ArrLaw
arr_congruent Ps Os A B e s h = same-outputs Ps Os (arr e) (arr s) A B (same-arr value_of e s (twin_leaf Ps A B e s h))

pub sequence_congruent : SequenceLaw
sequence_congruent Ps Os A B C f f' g g' p q = seq_same Ps Os A B C f f' g g' p.one_typed q.one_typed p.same q.same

pub first_congruent : FirstLaw
first_congruent Ps Os A B C f f' p = first_same Ps Os A B C f f' p.one_typed p.same

pub parallel_congruent : ParallelLaw
parallel_congruent Ps Os A B fs gs h = par_same Ps Os A B fs gs h

pub loop_congruent : LoopLaw
loop_congruent Ps Os A B C c d f f' h p =
    same-trans Ps Os A (loop_pre c f) (loop_pre d f) (loop_pre d f')
    (same-outputs Ps Os (loop_pre c f) (loop_pre d f) A B (same-loop_pre value_of c d f f (twin_leaf Ps unit_ty C c d h)
    (same-typed value_of ExpressionTyped typed_value Ps Os f (pair_ty A C) (pair_ty B C) p.one_typed)))
    (loop_same Ps Os A B C d f f' h.other_typed p.one_typed p.same)

pub previous_congruent : PreviousLaw
previous_congruent Ps Os A c d h = same-outputs Ps Os (i_pre c) (i_pre d) A A (same-i_pre value_of c d (twin_leaf Ps unit_ty A c d h))

pub delay_congruent : DelayLaw
delay_congruent Ps Os A q c d h = same-outputs Ps Os (delay q c) (delay q d) A A (same-delay value_of q c d (twin_leaf Ps unit_ty A c d h))

pub hold_congruent : HoldLaw
hold_congruent Ps Os A c d h = same-outputs Ps Os (hold c) (hold d) (event_ty A) A (same-hold value_of c d (twin_leaf Ps unit_ty A c d h))

pub accumulate_congruent : AccumulateLaw
accumulate_congruent Ps Os V Z g h z y p q =
    same-outputs Ps Os (accum_by g z) (accum_by h y) (event_ty V) (event_ty Z)
    (same-accum_by value_of g h z y (twin_leaf Ps unit_ty Z z y q) (twin_leaf Ps (pair_ty Z V) Z g h p))

pub after_congruent : AfterLaw
after_congruent Ps Os A C q c d h = same-outputs Ps Os (after q c) (after q d) A (event_ty C) (same-after value_of q c d (twin_leaf Ps unit_ty C c d h))

pub repeatedly_congruent : RepeatedlyLaw
repeatedly_congruent Ps Os A C q c d h =
    same-outputs Ps Os (repeatedly q c) (repeatedly q d) A (event_ty C) (same-repeatedly value_of q c d (twin_leaf Ps unit_ty C c d h))

pub switch_congruent : SameSwitchLaw
switch_congruent tm Ps Os A B C f f' t t' p q = switch_same tm Ps Os A B C f f' t t' p.one_typed q.one_typed p.same q.same

pub restart_congruent : SameRestartLaw
restart_congruent tm Ps Os D B C f f' t t' p q = r_switch_same tm Ps Os D B C f f' t t' p.one_typed q.one_typed p.same q.same

pub freeze_congruent : SameFreezeLaw
freeze_congruent Ps Os A B C f f' e e' t t' p q r =
    k_switch_same Ps Os A B C f f' e e' t t' p.one_typed p.other_typed q.one_typed r.one_typed p.same q.same r.same

pub freeze_members_congruent : SameFreezeMembersLaw
freeze_members_congruent Ps Os A B C D r s fs gs e e' t t' few h hs p q =
    same-trans Ps Os A (p_switch r fs e t) (p_switch s fs e t) (p_switch s gs e' t')
    (same-outputs Ps Os (p_switch r fs e t) (p_switch s fs e t) A (list_ty B)
    (same-p_switch value_of r s fs fs e e t t few (twin_leaf Ps (pair_ty A int_ty) D r s h)
    (same-all_typed value_of ExpressionTyped typed_value Ps Os fs D B (twins_left Ps Os D B fs gs hs))
    (same-typed value_of ExpressionTyped typed_value Ps Os e (pair_ty A (list_ty B)) (event_ty C) p.one_typed)
    (same-typed value_of ExpressionTyped typed_value (Ps ++ C ∷ []) (Os ++ copies (members fs) (arrow D B)) t A (list_ty B) q.one_typed)))
    (p_switch_same Ps Os A B C D s fs gs h.other_typed few hs e e' t t' p.one_typed q.one_typed p.same q.same)
