-- The C functions of forms: each does the form's step, where those that it calls do theirs.
use Rattle.std.specs.Prelude.{ℕ, List, [], ◌∷◌}
use Rattle.sample_core.specs.Datum.{Datum}
use Rattle.sample_core.specs.TypeTree.{TypeTree, pair_ty}
use Rattle.leaf_code.specs.Fitting.{Bounds}
use Rattle.net_machine.specs.Stepper.{Stepper, arr_step, seq_step, first_step, loop_step, initial_out_step, initial_in_step, same_step}
use Rattle.net_code.specs.Running.{Given}
use Rattle.c_meaning.specs.Syntax.{Term, local, dot, choice, Command, sequence, define, assign, answer, Function}
use Rattle.c_meaning.specs.Meaning.{Linked, function_run}
use Rattle.c_leaf.specs.Representing.{c_type}
use Rattle.c_leaf.specs.LeafC.{pair_of}
use Rattle.c_leaf.specs.LeafCLaw.{Computes, IsConstant}
use Rattle.c_forms.specs.Keeping.{Shape, keeps_none, keeps_both, keeps_fed}
use Rattle.c_forms.specs.Standing.{Right, is_first, behind, part_call, leaf_call, constant_call, stepping}

-- commands, one after the other
abbrev pub lines : List Command → Command → Command
lines [] a = a
lines (c ∷ cs) a = sequence c (lines cs a)

-- j, k: the numbers of the functions that are called
module _ (n : Bounds) (Ps : List TypeTree) (Os : List Shape) where
  abbrev pub register : ℕ → Term
  register k = behind n Ps Os k

  abbrev pub arr_function : TypeTree → TypeTree → ℕ → Function
  arr_function A B j =
      stepping n Ps Os keeps_none A B
      (lines (leaf_call n Ps Os B j (local 2) ∷ []) (answer (register 0)))

  -- a frozen network that is not there
  abbrev pub same_function : TypeTree → Function
  same_function A = stepping n Ps Os keeps_none A A (answer (local 2))

  abbrev pub seq_function : Shape → Shape → TypeTree → TypeTree → TypeTree → ℕ → ℕ → Function
  seq_function S T A B D j k =
      stepping n Ps Os (keeps_both S T) A D
      (lines
      (part_call n Ps Os B j (dot (local 0) 0) (local 2)
      ∷ part_call n Ps Os D k (dot (local 0) 1) (register 0)
      ∷ []) (answer (register 1)))

  abbrev pub first_function : Shape → TypeTree → TypeTree → TypeTree → ℕ → Function
  first_function S A B D j =
      stepping n Ps Os S (pair_ty A D) (pair_ty B D)
      (lines
      (part_call n Ps Os B j (local 0) (dot (local 2) 0)
      ∷ define (c_type n (pair_ty B D)) (pair_of (register 0) (dot (local 2) 1))
      ∷ []) (answer (register 1)))

  abbrev pub loop_function : Shape → TypeTree → TypeTree → TypeTree → ℕ → ℕ → Function
  loop_function S A B V c j =
      stepping n Ps Os (keeps_fed V S) A B
      (lines
      (constant_call n Ps Os V c
      ∷ define (c_type n V) (choice is_first (register 0) (dot (local 0) 0))
      ∷ define (c_type n (pair_ty A V)) (pair_of (local 2) (register 1))
      ∷ part_call n Ps Os (pair_ty B V) j (dot (local 0) 1) (register 2)
      ∷ assign (dot (local 0) 0) (dot (register 3) 1)
      ∷ []) (answer (dot (register 3) 0)))

  -- `-->`
  abbrev pub out_function : Shape → TypeTree → TypeTree → ℕ → ℕ → Function
  out_function S A B c j =
      stepping n Ps Os S A B
      (lines
      (constant_call n Ps Os B c ∷ part_call n Ps Os B j (local 0) (local 2) ∷ [])
      (answer (choice is_first (register 0) (register 1))))

  -- `>--`
  abbrev pub in_function : Shape → TypeTree → TypeTree → ℕ → ℕ → Function
  in_function S A B c j =
      stepping n Ps Os S A B
      (lines
      (constant_call n Ps Os A c
      ∷ define (c_type n A) (choice is_first (register 0) (local 2))
      ∷ part_call n Ps Os B j (local 0) (register 1)
      ∷ []) (answer (register 2)))

  -- over these functions
  module _ (F : ℕ → Linked) where
    abbrev pub ArrLaw : Type 0
    ArrLaw = (A B : TypeTree) (j : ℕ) (h : List Datum → Datum → Datum)
        → Computes n Ps A B h (F j)
        → Right n Ps Os keeps_none A B (λ g. arr_step (h g.params)) (function_run F (arr_function A B j))

    abbrev pub SameStepLaw : Type 0
    SameStepLaw = (A : TypeTree)
        → Right n Ps Os keeps_none A A (λ g. same_step) (function_run F (same_function A))

    abbrev pub SeqLaw : Type 0
    SeqLaw = (S T : Shape) (A B D : TypeTree) (j k : ℕ) (f h : Given → Stepper)
        → Right n Ps Os S A B f (F j) → Right n Ps Os T B D h (F k)
        → Right n Ps Os (keeps_both S T) A D (λ g. seq_step (f g) (h g))
        (function_run F (seq_function S T A B D j k))

    abbrev pub FirstLaw : Type 0
    FirstLaw = (S : Shape) (A B D : TypeTree) (j : ℕ) (f : Given → Stepper)
        → Right n Ps Os S A B f (F j)
        → Right n Ps Os S (pair_ty A D) (pair_ty B D) (λ g. first_step (f g))
        (function_run F (first_function S A B D j))

    abbrev pub LoopLaw : Type 0
    LoopLaw = (S : Shape) (A B V : TypeTree) (c j : ℕ) (v : List Datum → Datum) (f : Given → Stepper)
        → IsConstant n Ps V v (F c) → Right n Ps Os S (pair_ty A V) (pair_ty B V) f (F j)
        → Right n Ps Os (keeps_fed V S) A B (λ g. loop_step (v g.params) (f g))
        (function_run F (loop_function S A B V c j))

    abbrev pub OutLaw : Type 0
    OutLaw = (S : Shape) (A B : TypeTree) (c j : ℕ) (v : List Datum → Datum) (f : Given → Stepper)
        → IsConstant n Ps B v (F c) → Right n Ps Os S A B f (F j)
        → Right n Ps Os S A B (λ g. initial_out_step (v g.params) (f g))
        (function_run F (out_function S A B c j))

    abbrev pub InLaw : Type 0
    InLaw = (S : Shape) (A B : TypeTree) (c j : ℕ) (v : List Datum → Datum) (f : Given → Stepper)
        → IsConstant n Ps A v (F c) → Right n Ps Os S A B f (F j)
        → Right n Ps Os S A B (λ g. initial_in_step (v g.params) (f g))
        (function_run F (in_function S A B c j))
