-- Each form outputs the same in alike environments where its parts are twins: expressions of one type
-- and value, networks of equal types that output the same in alike environments. One law a form; each
-- says of which parts. So it is in continuations, whose environments have the event's value more, and
-- what was frozen, which are twins too.
use Rattle.std.specs.Prelude.{ℕ, ◌≤◌, List, [], ◌∷◌, ◌++◌}
use Rattle.sample_core.specs.TypeTree.{TypeTree, unit_ty, int_ty, pair_ty, event_ty, list_ty}
use Rattle.leaf_core.specs.Expression.{Expression}
use Rattle.leaf_core.specs.ExpressionTyping.{ExpressionTyped}
use Rattle.leaf_core.specs.SameValue.{SameValue}
use Rattle.net_tree.specs.Network.{Timing, Network, Networks, arr, seq, first, par, loop_pre, initial_out, initial_in, i_pre, delay, hold, accum_by, after, repeatedly, switch, r_switch, rp_switch, k_switch, p_switch, no_members, and_member}
use Rattle.net_meaning.specs.Typing.{Arrow, arrow, copies, members}
use Rattle.net_meaning.specs.TypedNetwork.{NetTyped}
use Rattle.net_meaning.specs.AlikeEnvironments.{SameOutputs}

-- both expressions have type B under parameters of types Ps and at inputs of type A, and one value
pub record TwinLeaf (Ps : List TypeTree) (A B : TypeTree) (e s : Expression) : Type 0 where
  pub one_typed : ExpressionTyped e Ps A B
  pub other_typed : ExpressionTyped s Ps A B
  pub same : SameValue Ps A e s

-- both networks have these types, and output the same in alike environments
pub record Twin (Ps : List TypeTree) (Os : List Arrow) (A B : TypeTree) (f g : Network Expression)
    : Type 0 where
  pub one_typed : NetTyped Ps Os f A B
  pub other_typed : NetTyped Ps Os g A B
  pub same : SameOutputs Ps Os A f g

-- members and their twins, one by one
pub data TwinMembers (Ps : List TypeTree) (Os : List Arrow) (A B : TypeTree)
    : Networks Expression → Networks Expression → Type 0 where
  no_twins : TwinMembers Ps Os A B no_members no_members
  and_twins : {f g : Network Expression} {fs gs : Networks Expression} → NetTyped Ps Os f A B
      → NetTyped Ps Os g A B → SameOutputs Ps Os A f g → TwinMembers Ps Os A B fs gs
      → TwinMembers Ps Os A B (and_member f fs) (and_member g gs)

-- `arr`: of its expression
abbrev pub ArrLaw : Type 0
ArrLaw = (Ps : List TypeTree) (Os : List Arrow) (A B : TypeTree) (e s : Expression)
    → TwinLeaf Ps A B e s → SameOutputs Ps Os A (arr e) (arr s)

-- `>>>`: of the two networks, the second of which gets what the first outputs
abbrev pub SequenceLaw : Type 0
SequenceLaw = (Ps : List TypeTree) (Os : List Arrow) (A B C : TypeTree)
    (f f' g g' : Network Expression) → Twin Ps Os A B f f' → Twin Ps Os B C g g'
    → SameOutputs Ps Os A (seq f g) (seq f' g')

-- `first`: of its network, whatever passes along on the right
abbrev pub FirstLaw : Type 0
FirstLaw = (Ps : List TypeTree) (Os : List Arrow) (A B C : TypeTree) (f f' : Network Expression)
    → Twin Ps Os A B f f' → SameOutputs Ps Os (pair_ty A C) (first f) (first f')

-- `parB`: of its members
abbrev pub ParallelLaw : Type 0
ParallelLaw = (Ps : List TypeTree) (Os : List Arrow) (A B : TypeTree) (fs gs : Networks Expression)
    → TwinMembers Ps Os A B fs gs → SameOutputs Ps Os A (par fs) (par gs)

-- `loopPre`: of what is fed back first, and of the network
abbrev pub LoopLaw : Type 0
LoopLaw = (Ps : List TypeTree) (Os : List Arrow) (A B C : TypeTree) (c d : Expression)
    (f f' : Network Expression) → TwinLeaf Ps unit_ty C c d
    → Twin Ps Os (pair_ty A C) (pair_ty B C) f f'
    → SameOutputs Ps Os A (loop_pre c f) (loop_pre d f')

-- `iPre`: of its first output
abbrev pub PreviousLaw : Type 0
PreviousLaw = (Ps : List TypeTree) (Os : List Arrow) (A : TypeTree) (c d : Expression)
    → TwinLeaf Ps unit_ty A c d → SameOutputs Ps Os A (i_pre c) (i_pre d)

-- `delay`: of what it outputs until a sample is due
abbrev pub DelayLaw : Type 0
DelayLaw = (Ps : List TypeTree) (Os : List Arrow) (A : TypeTree) (q : ℕ) (c d : Expression)
    → TwinLeaf Ps unit_ty A c d → SameOutputs Ps Os A (delay q c) (delay q d)

-- `hold`: of what it outputs until the first event
abbrev pub HoldLaw : Type 0
HoldLaw = (Ps : List TypeTree) (Os : List Arrow) (A : TypeTree) (c d : Expression)
    → TwinLeaf Ps unit_ty A c d → SameOutputs Ps Os (event_ty A) (hold c) (hold d)

-- `accumBy`: of its step and of its start
abbrev pub AccumulateLaw : Type 0
AccumulateLaw = (Ps : List TypeTree) (Os : List Arrow) (V Z : TypeTree) (g h z y : Expression)
    → TwinLeaf Ps (pair_ty Z V) Z g h → TwinLeaf Ps unit_ty Z z y
    → SameOutputs Ps Os (event_ty V) (accum_by g z) (accum_by h y)

-- `after`: of what its event carries
abbrev pub AfterLaw : Type 0
AfterLaw = (Ps : List TypeTree) (Os : List Arrow) (A C : TypeTree) (q : ℕ) (c d : Expression)
    → TwinLeaf Ps unit_ty C c d → SameOutputs Ps Os A (after q c) (after q d)

-- `repeatedly`: of what its events carry
abbrev pub RepeatedlyLaw : Type 0
RepeatedlyLaw = (Ps : List TypeTree) (Os : List Arrow) (A C : TypeTree) (q : ℕ) (c d : Expression)
    → TwinLeaf Ps unit_ty C c d → SameOutputs Ps Os A (repeatedly q c) (repeatedly q d)

-- `switch`, `dSwitch`: of its network, and of its continuation under the event's value
abbrev pub SameSwitchLaw : Type 0
SameSwitchLaw = (tm : Timing) (Ps : List TypeTree) (Os : List Arrow) (A B C : TypeTree)
    (f f' t t' : Network Expression)
    → Twin Ps Os A (pair_ty B (event_ty C)) f f' → Twin (Ps ++ C ∷ []) Os A B t t'
    → SameOutputs Ps Os A (switch tm f t) (switch tm f' t')

-- `rSwitch`, `drSwitch`: of what runs first, and of what each event starts under its value
abbrev pub SameRestartLaw : Type 0
SameRestartLaw = (tm : Timing) (Ps : List TypeTree) (Os : List Arrow) (D B C : TypeTree)
    (f f' t t' : Network Expression)
    → Twin Ps Os D B f f' → Twin (Ps ++ C ∷ []) Os D B t t'
    → SameOutputs Ps Os (pair_ty D (event_ty C)) (r_switch tm f t) (r_switch tm f' t')

-- `kSwitch`: of its network, of what watches it, and of its continuation under the event's value and
-- the network that was frozen
abbrev pub SameFreezeLaw : Type 0
SameFreezeLaw = (Ps : List TypeTree) (Os : List Arrow) (A B C : TypeTree)
    (f f' e e' t t' : Network Expression) → Twin Ps Os A B f f'
    → Twin Ps Os (pair_ty A B) (event_ty C) e e'
    → Twin (Ps ++ C ∷ []) (Os ++ arrow A B ∷ []) A B t t'
    → SameOutputs Ps Os A (k_switch f e t) (k_switch f' e' t')

-- `pSwitch`: of its route, of its members, of what watches them, and of its continuation under the
-- event's value and the members that were frozen
abbrev pub SameFreezeMembersLaw : Type 0
SameFreezeMembersLaw = (Ps : List TypeTree) (Os : List Arrow) (A B C D : TypeTree) (r s : Expression)
    (fs gs : Networks Expression) (e e' t t' : Network Expression)
    → members fs ≤ 64 → TwinLeaf Ps (pair_ty A int_ty) D r s → TwinMembers Ps Os D B fs gs
    → Twin Ps Os (pair_ty A (list_ty B)) (event_ty C) e e'
    → Twin (Ps ++ C ∷ []) (Os ++ copies (members fs) (arrow D B)) A (list_ty B) t t'
    → SameOutputs Ps Os A (p_switch r fs e t) (p_switch s gs e' t')

-- `-->`: of its first output, and of its network
abbrev pub InitialOutLaw : Type 0
InitialOutLaw = (Ps : List TypeTree) (Os : List Arrow) (A B : TypeTree) (c d : Expression)
    (f f' : Network Expression) → TwinLeaf Ps unit_ty B c d → Twin Ps Os A B f f'
    → SameOutputs Ps Os A (initial_out c f) (initial_out d f')

-- `>--`: of its first input, and of its network
abbrev pub InitialInLaw : Type 0
InitialInLaw = (Ps : List TypeTree) (Os : List Arrow) (A B : TypeTree) (c d : Expression)
    (f f' : Network Expression) → TwinLeaf Ps unit_ty A c d → Twin Ps Os A B f f'
    → SameOutputs Ps Os A (initial_in c f) (initial_in d f')

-- `rpSwitchB`: of its members, of its choice, and of what that starts under a value
abbrev pub SameCollectionLaw : Type 0
SameCollectionLaw = (Ps : List TypeTree) (Os : List Arrow) (D B C V : TypeTree)
    (fs gs : Networks Expression) (m n : Expression) (t t' : Network Expression)
    → TwinMembers Ps Os D B fs gs
    → TwinLeaf Ps C (pair_ty (list_ty int_ty) (list_ty V)) m n
    → Twin (Ps ++ V ∷ []) Os D B t t'
    → SameOutputs Ps Os (pair_ty D (event_ty C)) (rp_switch fs m t) (rp_switch gs n t')
