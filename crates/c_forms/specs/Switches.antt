-- The C functions of switches.
use Rattle.std.specs.Prelude.{ℕ, ◌+◌, true, false, List, [], ◌∷◌, ◌++◌, length}
use Rattle.sample_core.specs.TypeTree.{TypeTree, pair_ty, event_ty}
use Rattle.leaf_code.specs.Fitting.{Bounds}
use Rattle.net_tree.specs.Network.{Timing, at_once, delayed}
use Rattle.net_machine.specs.Stepper.{Stepper, switch_step, r_switch_step}
use Rattle.net_code.specs.Running.{Given, given_value}
use Rattle.c_meaning.specs.Syntax.{Term, local, dot, boolean, Argument, by_value, by_const, by_pointer, Command, skip, sequence, assign, call, branch, answer, Function}
use Rattle.c_meaning.specs.Meaning.{Linked, function_run}
use Rattle.c_leaf.specs.Representing.{c_type}
use Rattle.c_leaf.specs.LeafC.{part_command}
use Rattle.c_forms.specs.Keeping.{Shape, keeps_mode}
use Rattle.c_forms.specs.Standing.{Right, behind, param_args, old_args, part_call, stepping}
use Rattle.c_forms.specs.Forms.{lines}
use Rattle.c_forms.specs.Cells.{kept_at, number_term, at_first}

-- whether something has taken over; what ran before, and what has taken over
abbrev pub taken_of : Term
taken_of = kept_at 0

abbrev pub by_of : Term
by_of = kept_at 1

abbrev pub front_of : Term
front_of = kept_at 2

abbrev pub taker_of : Term
taker_of = kept_at 3

-- `if (c) { return e; }` behind a call; `if (!c) { return e; }`
abbrev pub leave_if : Term → Command → Term → Command
leave_if c a e = branch c (sequence a (answer e)) skip

abbrev pub leave_unless : Term → Term → Command
leave_unless c e = branch c skip (answer e)

module _ (n : Bounds) (Ps : List TypeTree) (Os : List Shape) where
  abbrev pub register : ℕ → Term
  register k = behind n Ps Os k

  -- what is in scope, with the value by which something has taken over
  abbrev pub value_args : List Argument
  value_args = param_args 3 (length Ps) ++ by_const by_of ∷ old_args (3 + length Ps) (length Os)

  -- `const B r = t(&s->taker, dt, x, .., &s->by);`, with this step
  abbrev pub taker_call : TypeTree → ℕ → Term → Term → Command
  taker_call B k e x =
      call (c_type n B) k (by_pointer taker_of ∷ by_value e ∷ by_const x ∷ value_args)

  -- the event that f's answer has, and its value
  abbrev pub event_beside_of : Term → Term
  event_beside_of e = dot (dot e 1) 0

  abbrev pub value_beside : Term → Term
  value_beside e = dot (dot e 1) 1

  -- what is heard at the event's sample
  abbrev pub heard_term : Timing → Term
  heard_term at_once = register 1
  heard_term delayed = dot (register 0) 0

  -- function j runs, until its answer has an event, by whose value function k starts
  abbrev pub switch_function : Timing → Shape → Shape → TypeTree → TypeTree → TypeTree → ℕ → ℕ → Function
  switch_function tm S T A B V j k =
      stepping n Ps Os (keeps_mode V S T) A B
      (lines
      (at_first (assign taken_of (boolean false))
      ∷ leave_if taken_of (taker_call B k (local 1) (local 2)) (register 0)
      ∷ part_call n Ps Os (pair_ty B (event_ty V)) j front_of (local 2)
      ∷ leave_unless (event_beside_of (register 0)) (dot (register 0) 0)
      ∷ assign taken_of (boolean true)
      ∷ assign by_of (value_beside (register 0))
      ∷ taker_call B k (number_term 0) (local 2)
      ∷ []) (answer (heard_term tm)))

  -- the event beside the input: its value takes over, and function k starts on register 0
  abbrev pub restart_lines : TypeTree → ℕ → Command → Command
  restart_lines B k c =
      sequence (assign taken_of (boolean true))
      (sequence (assign by_of (value_beside (local 2)))
      (sequence (taker_call B k (number_term 0) (register 0)) c))

  -- what ran before answers register 1, also where function k starts
  abbrev pub late_lines : TypeTree → ℕ → Command
  late_lines B k =
      sequence (branch (event_beside_of (local 2)) (restart_lines B k skip) skip) (answer (register 1))

  -- function j runs, or function k by the value that has taken over; at an event k starts anew
  abbrev pub r_switch_lines : Timing → TypeTree → ℕ → ℕ → Command
  r_switch_lines at_once B j k =
      lines
      (branch (event_beside_of (local 2)) (restart_lines B k (answer (register 1))) skip
      ∷ leave_if taken_of (taker_call B k (local 1) (register 0)) (register 1)
      ∷ part_call n Ps Os B j front_of (register 0)
      ∷ []) (answer (register 1))
  r_switch_lines delayed B j k =
      lines
      (branch taken_of (sequence (taker_call B k (local 1) (register 0)) (late_lines B k)) skip
      ∷ part_call n Ps Os B j front_of (register 0)
      ∷ []) (late_lines B k)

  abbrev pub r_switch_function : Timing → Shape → Shape → TypeTree → TypeTree → TypeTree → ℕ → ℕ → Function
  r_switch_function tm S T A B V j k =
      stepping n Ps Os (keeps_mode V S T) (pair_ty A (event_ty V)) B
      (lines (at_first (assign taken_of (boolean false)) ∷ part_command n A (dot (local 2) 0) ∷ [])
      (r_switch_lines tm B j k))

  abbrev pub SwitchLaw : (ℕ → Linked) → Type 0
  SwitchLaw F = (tm : Timing) (S T : Shape) (A B V : TypeTree) (j k : ℕ) (f t : Given → Stepper)
      → Right n Ps Os S A (pair_ty B (event_ty V)) f (F j)
      → Right n (Ps ++ V ∷ []) Os T A B t (F k)
      → Right n Ps Os (keeps_mode V S T) A B
      (λ g. switch_step tm (f g) (λ c. t (given_value g c)))
      (function_run F (switch_function tm S T A B V j k))

  abbrev pub RSwitchLaw : (ℕ → Linked) → Type 0
  RSwitchLaw F = (tm : Timing) (S T : Shape) (A B V : TypeTree) (j k : ℕ) (f t : Given → Stepper)
      → Right n Ps Os S A B f (F j) → Right n (Ps ++ V ∷ []) Os T A B t (F k)
      → Right n Ps Os (keeps_mode V S T) (pair_ty A (event_ty V)) B
      (λ g. r_switch_step tm (f g) (λ c. t (given_value g c)))
      (function_run F (r_switch_function tm S T A B V j k))
