-- What is left of the walk of a node, where its first parts are known.
use Rattle.std.specs.Prelude.{ℕ, suc, List, ◌^◌, Result, Ok}
use Rattle.sample_core.specs.TypeTree.{TypeTree, int_ty, unit_ty, pair_ty, event_ty, list_ty}
use Rattle.leaf_core.specs.Expression.{Expression}
use Rattle.leaf_core.specs.ExpressionCheck.{type_answer}
use Rattle.net_tree.specs.Network.{Network, Networks}
use Rattle.net_meaning.specs.Typing.{Arrow, arrow}
use Rattle.net_types.specs.declared.fault.TypeFault.{TypeFault}
use Rattle.net_types.specs.Walk.{◌>>=◌, ◌>>◌, ◌↓◌, as_choice, as_event, as_pair, expect_same, leaf_fault_at, one_output, switched, test_range, within}
use Rattle.net_types.specs.Check.{net_walk, net_walk_all}
use Rattle.net_syntax.specs.Scopes.{InScope, and_param, and_olds}

-- the type of the expression at P under a scope and an input, or its fault
abbrev pub leaf_walk : List ℕ → InScope → TypeTree → Expression → Result TypeTree TypeFault
leaf_walk P S A e = leaf_fault_at P (type_answer S.params A e)

-- the output of the network at P under a scope and an input, or the first fault in it
abbrev pub walk_in : List ℕ → InScope → TypeTree → Network Expression → Result TypeTree TypeFault
walk_in P S A net = net_walk P S.params S.olds A net

-- the one output of the members from child k on of the node at P
abbrev pub members_walk : List ℕ → ℕ → InScope → TypeTree → Networks Expression
    → Result TypeTree TypeFault
members_walk P k S A fs = do
  Bs ← net_walk_all P k S.params S.olds A fs
  one_output P k Bs

-- the output of the continuation at P, where it is B
abbrev pub next_walk : List ℕ → InScope → TypeTree → TypeTree → Network Expression
    → Result TypeTree TypeFault
next_walk P S A B n = do
  D ← walk_in P S A n
  expect_same P B D

-- events of the accumulator, of type Z, where g makes of it and an event's value V another
abbrev pub step_walk : List ℕ → InScope → TypeTree → TypeTree → Expression
    → Result TypeTree TypeFault
step_walk P S V Z g = do
  within (pair_ty Z V)
  Y ← leaf_walk (P ↓ 0) S (pair_ty Z V) g
  expect_same P Z Y
  within (event_ty Z)

-- events of the constant, where q is at least low and at most 2^62
abbrev pub timer_walk : List ℕ → InScope → ℕ → ℕ → Expression → Result TypeTree TypeFault
timer_walk P S low q c = do
  test_range P low (2 ^ 62) q
  C ← leaf_walk (P ↓ 0) S unit_ty c
  within (event_ty C)

-- what a loop outputs, where its network outputs E and C is fed back
abbrev pub loop_output : List ℕ → TypeTree → TypeTree → Result TypeTree TypeFault
loop_output P C E = do
  (B, D) ← as_pair (P ↓ 1) E
  expect_same (P ↓ 1) C D
  Ok B

-- what a loop outputs, where C is fed back
abbrev pub loop_walk : List ℕ → InScope → TypeTree → TypeTree → Network Expression
    → Result TypeTree TypeFault
loop_walk P S A C f = do
  within (pair_ty A C)
  E ← walk_in (P ↓ 1) S (pair_ty A C) f
  loop_output P C E

-- the output of a switch whose first network outputs F
abbrev pub switched_walk : List ℕ → InScope → TypeTree → TypeTree → Network Expression
    → Result TypeTree TypeFault
switched_walk P S A F n = switched P F (λ C. walk_in (P ↓ 1) (and_param S C) A n)

-- the scope with one more parameter, of what E carries, which stands at P
abbrev pub under_event : List ℕ → InScope → TypeTree → Result InScope TypeFault
under_event P S E = do
  C ← as_event P E
  Ok (and_param S C)

-- the scope with one more parameter, of what the events carry of e at P, which watches A and B
abbrev pub watch_walk : List ℕ → InScope → TypeTree → TypeTree → Network Expression
    → Result InScope TypeFault
watch_walk P S A B e = do
  within (pair_ty A B)
  E ← walk_in P S (pair_ty A B) e
  under_event P S E

-- the output of a switch that freezes n networks from o.input to o.output and outputs B; e is its
-- child k
abbrev pub freezing_walk : List ℕ → ℕ → InScope → TypeTree → TypeTree → ℕ → Arrow
    → Network Expression → Network Expression → Result TypeTree TypeFault
freezing_walk P k S A B n o e t = do
  within (pair_ty A B)
  E ← walk_in (P ↓ k) S (pair_ty A B) e
  C ← as_event (P ↓ k) E
  next_walk (P ↓ suc k) (and_olds (and_param S C) n o) A B t

-- the type of what is routed to members
abbrev pub route_walk : List ℕ → InScope → TypeTree → Expression → Result TypeTree TypeFault
route_walk P S A r = do
  within (pair_ty A int_ty)
  leaf_walk (P ↓ 0) S (pair_ty A int_ty) r

-- the input and the output of members on what is routed to them
abbrev pub routed_walk : List ℕ → InScope → TypeTree → Expression → Networks Expression
    → Result Arrow TypeFault
routed_walk P S A r fs = do
  D ← route_walk P S A r
  B ← members_walk P 1 S D fs
  Ok (arrow D B)

-- the scope with one more parameter, of the values that a choice of type K at P starts members with
abbrev pub under_choice : List ℕ → InScope → TypeTree → Result InScope TypeFault
under_choice P S K = do
  V ← as_choice P K
  Ok (and_param S V)

-- the same of the choice m at P, which gets C
abbrev pub choice_walk : List ℕ → InScope → TypeTree → Expression → Result InScope TypeFault
choice_walk P S C m = do
  K ← leaf_walk P S C m
  under_choice P S K

-- lists of what members output, where the continuation at P outputs it too
abbrev pub started_walk : List ℕ → InScope → TypeTree → TypeTree → Network Expression
    → Result TypeTree TypeFault
started_walk P S A B n = do
  next_walk P S A B n
  within (list_ty B)
