-- The C functions of switches that freeze, and of frozen networks.
use Rattle.std.specs.Prelude.{◌≡◌, slice_get, Some, ℕ, zero, suc, ◌+◌, ◌*◌, true, false, List, [], ◌∷◌, ◌++◌, length}
use Rattle.sample_core.specs.TypeTree.{TypeTree, pair_ty, event_ty}
use Rattle.leaf_code.specs.Fitting.{Bounds}
use Rattle.net_machine.specs.Stepper.{Stepper, freezing_step, resume_step}
use Rattle.net_code.specs.Running.{Given, kept_at, split, given_value, given_kept, given_first}
use Rattle.c_meaning.specs.Object.{number_type, i64}
use Rattle.c_meaning.specs.Syntax.{choice, Term, local, dot, boolean, Argument, by_value, by_const, by_pointer, Command, define, assign, call, answer, Function}
use Rattle.c_meaning.specs.Meaning.{Linked, function_run}
use Rattle.c_leaf.specs.Representing.{c_type}
use Rattle.c_leaf.specs.LeafC.{pair_of}
use Rattle.c_forms.specs.Keeping.{Shape, keeps_both, keeps_mode, keeps_frozen}
use Rattle.c_forms.specs.Standing.{Right, is_first, behind, param_args, old_args, part_call, stepping}
use Rattle.c_forms.specs.Forms.{lines}
use Rattle.c_forms.specs.Cells.{number_term, at_first}
use Rattle.c_forms.specs.Members.{members_shape}
use Rattle.c_forms.specs.Switches.{taken_of, by_of, front_of, taker_of, leave_if, leave_unless}

-- what is watched, and the watcher; when the first was frozen, as what, and what has taken over
abbrev pub watched_of : Term
watched_of = dot front_of 0

abbrev pub watcher_of : Term
watcher_of = dot front_of 1

abbrev pub when_of : Term
when_of = dot taker_of 0

abbrev pub frozen_of : Term
frozen_of = dot taker_of 1

abbrev pub resumer_of : Term
resumer_of = dot taker_of 2

-- what is frozen, handed on as one network; so many members one by one, from number i on
abbrev pub frozen_whole : List Argument
frozen_whole = by_const frozen_of ∷ by_value when_of ∷ []

abbrev pub frozen_members : ℕ → ℕ → List Argument
frozen_members i zero = []
frozen_members i (suc m) =
    by_const (dot frozen_of i) ∷ by_value when_of ∷ frozen_members (suc i) m

module _ (n : Bounds) (Ps : List TypeTree) (Os : List Shape) where
  abbrev pub register : ℕ → Term
  register k = behind n Ps Os k

  -- what is in scope, with the value that has taken over, and what is frozen, as these arguments
  abbrev pub frozen_args : List Argument → List Argument
  frozen_args zs =
      param_args 3 (length Ps) ++ (by_const by_of ∷ (old_args (3 + length Ps) (length Os) ++ zs))

  abbrev pub resumer_call : List Argument → TypeTree → ℕ → Term → Command
  resumer_call zs B k e =
      call (c_type n B) k
      (by_pointer resumer_of ∷ by_value e ∷ by_const (local 2) ∷ frozen_args zs)

  -- function j runs, and e on its answers, until e has an event: by its value function k starts, with
  -- what j kept before that sample in scope
  abbrev pub freezing_function : List Argument → Shape → Shape → Shape → TypeTree → TypeTree → TypeTree → ℕ → ℕ → ℕ → Function
  freezing_function zs S W T A B V j e k =
      stepping n Ps Os (keeps_mode V (keeps_both S W) (keeps_frozen S T)) A B
      (lines
      (at_first (assign taken_of (boolean false))
      ∷ leave_if taken_of (resumer_call zs B k (local 1)) (register 0)
      ∷ assign when_of (local 1)
      ∷ assign frozen_of watched_of
      ∷ part_call n Ps Os B j watched_of (local 2)
      ∷ define (c_type n (pair_ty A B)) (pair_of (local 2) (register 0))
      ∷ part_call n Ps Os (event_ty V) e watcher_of (register 1)
      ∷ leave_unless (dot (register 2) 0) (register 0)
      ∷ assign taken_of (boolean true)
      ∷ assign by_of (dot (register 2) 1)
      ∷ resumer_call zs B k (number_term 0)
      ∷ []) (answer (register 3)))

  abbrev pub k_switch_function : Shape → Shape → Shape → TypeTree → TypeTree → TypeTree → ℕ → ℕ → ℕ → Function
  k_switch_function S W T A B V j e k = freezing_function frozen_whole S W T A B V j e k

  abbrev pub KSwitchLaw : (ℕ → Linked) → Type 0
  KSwitchLaw F = (S W T : Shape) (A B V : TypeTree) (j e k : ℕ) (f w t : Given → Stepper)
      → Right n Ps Os S A B f (F j) → Right n Ps Os W (pair_ty A B) (event_ty V) w (F e)
      → Right n (Ps ++ V ∷ []) (Os ++ S ∷ []) T A B t (F k)
      → Right n Ps Os (keeps_mode V (keeps_both S W) (keeps_frozen S T)) A B
      (λ g. freezing_step (f g) (w g) (λ c a m. t (given_kept (given_value g c) ((a, m) ∷ []))))
      (function_run F (k_switch_function S W T A B V j e k))

  -- the same of members, which are frozen together, and handed on one by one
  abbrev pub p_switch_function : List Shape → Shape → Shape → TypeTree → TypeTree → TypeTree → ℕ → ℕ → ℕ → Function
  p_switch_function Ss W T A B V j e k =
      freezing_function (frozen_members 0 (length Ss)) (members_shape Ss) W T A B V j e k

  abbrev pub PSwitchLaw : (ℕ → Linked) → Type 0
  PSwitchLaw F = (Ss : List Shape) (W T : Shape) (A B V : TypeTree) (j e k : ℕ) (f w t : Given → Stepper)
      → Right n Ps Os (members_shape Ss) A B f (F j)
      → Right n Ps Os W (pair_ty A B) (event_ty V) w (F e)
      → Right n (Ps ++ V ∷ []) (Os ++ Ss) T A B t (F k)
      → Right n Ps Os
      (keeps_mode V (keeps_both (members_shape Ss) W) (keeps_frozen (members_shape Ss) T)) A B
      (λ g. freezing_step (f g) (w g)
      (λ c a m. t (given_kept (given_value g c) (split (length Ss) a m))))
      (function_run F (p_switch_function Ss W T A B V j e k))

-- a frozen network, whose function has the first parameters, of types Qs, and the first frozen
-- networks, of shapes Rs, in scope
module _ (n : Bounds) (Qs Qs' : List TypeTree) (Rs Rs' : List Shape) where
  -- frozen network k, and its moment
  abbrev pub old_term : ℕ → Term
  old_term k = local (3 + length (Qs ++ Qs') + 2 * k)

  abbrev pub old_time : ℕ → Term
  old_time k = local (3 + length (Qs ++ Qs') + (2 * k + 1))

  abbrev pub first_args : List Argument
  first_args = param_args 3 (length Qs) ++ old_args (3 + length (Qs ++ Qs')) (length Rs)

  -- function j goes on with a copy, at the first sample with the moment of frozen network k
  abbrev pub old_function : Shape → TypeTree → TypeTree → ℕ → ℕ → Function
  old_function S A B k j =
      stepping n (Qs ++ Qs') (Rs ++ Rs') S A B
      (lines
      (define (number_type i64) (choice is_first (old_time k) (local 1))
      ∷ at_first (assign (local 0) (old_term k))
      ∷ call (c_type n B) j
      (by_pointer (local 0)
      ∷ by_value (behind n (Qs ++ Qs') (Rs ++ Rs') 0)
      ∷ by_const (local 2)
      ∷ first_args)
      ∷ []) (answer (behind n (Qs ++ Qs') (Rs ++ Rs') 1)))

  abbrev pub OldLaw : (ℕ → Linked) → Type 0
  OldLaw F = (S : Shape) (A B : TypeTree) (k j : ℕ) (f : Given → Stepper)
      → slice_get (Rs ++ Rs') k ≡ Some S → Right n Qs Rs S A B f (F j)
      → Right n (Qs ++ Qs') (Rs ++ Rs') S A B
      (λ g. resume_step (f (given_first g (length Qs) (length Rs))) (kept_at g.olds k).0 (kept_at g.olds k).1)
      (function_run F (old_function S A B k j))
