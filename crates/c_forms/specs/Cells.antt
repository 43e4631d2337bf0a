-- The C functions of cells: each starts, or steps, as cell_core has it.
use Rattle.std.specs.Prelude.{◌≤◌, ◌^◌, ℕ, pos, true, false, List, [], ◌∷◌}
use Rattle.sample_core.specs.Datum.{Datum, unit}
use Rattle.sample_core.specs.TypeTree.{TypeTree, int_ty, pair_ty, event_ty}
use Rattle.leaf_code.specs.Fitting.{Bounds}
use Rattle.cell_core.specs.declared.form.Form.{Form}
use Rattle.cell_core.specs.declared.form.Form.TheVariants as F
use Rattle.net_machine.specs.Stepper.{cell_form_step}
use Rattle.net_machine.specs.Machine.{no_leaf}
use Rattle.c_meaning.specs.Object.{i64}
use Rattle.c_meaning.specs.Syntax.{plus, minus, times, remainder, at_most, Term, local, dot, boolean, literal, zeroed, binary, inverse, both, choice, Command, skip, sequence, define, assign, branch, answer, Function}
use Rattle.c_meaning.specs.Meaning.{Linked, function_run}
use Rattle.c_meaning.specs.Wrapping.{modular}
use Rattle.c_leaf.specs.Representing.{c_type}
use Rattle.c_leaf.specs.LeafC.{pair_of}
use Rattle.c_leaf.specs.LeafCLaw.{Computes, IsConstant}
use Rattle.c_forms.specs.Keeping.{Shape, keeps_cell}
use Rattle.c_forms.specs.Standing.{Right, is_first, behind, leaf_call, constant_call, stepping}
use Rattle.c_forms.specs.Forms.{lines}

-- member k of what is kept; the number q; the event of a value
abbrev pub kept_at : ℕ → Term
kept_at k = dot (local 0) k

abbrev pub number_term : ℕ → Term
number_term q = literal i64 (pos q)

abbrev pub event_of : Term → Term
event_of e = pair_of (boolean true) e

-- `if (dt == 0) { c }`
abbrev pub at_first : Command → Command
at_first c = branch is_first c skip

module _ (n : Bounds) (Ps : List TypeTree) (Os : List Shape) where
  abbrev pub register : ℕ → Term
  register k = behind n Ps Os k

  -- no event
  abbrev pub no_event_of : TypeTree → Term
  no_event_of V = zeroed (c_type n (event_ty V))

  -- a function that keeps a cell, from a constant on, which function c answers
  abbrev pub cell_function : Form → TypeTree → TypeTree → TypeTree → ℕ → List Command → Term → Function
  cell_function form V A B c cs e =
      stepping n Ps Os (keeps_cell form V) A B (lines (constant_call n Ps Os V c ∷ cs) (answer e))

  abbrev pub i_pre_function : TypeTree → ℕ → Function
  i_pre_function V c =
      cell_function F.IPre V V V c
      (define (c_type n V) (choice is_first (register 0) (kept_at 0))
      ∷ assign (kept_at 0) (local 2)
      ∷ []) (register 1)

  abbrev pub hold_function : TypeTree → ℕ → Function
  hold_function V c =
      cell_function F.Hold V (event_ty V) V c
      (at_first (assign (kept_at 0) (register 0))
      ∷ branch (dot (local 2) 0) (assign (kept_at 0) (dot (local 2) 1)) skip
      ∷ []) (kept_at 0)

  -- function j steps the accumulator
  abbrev pub accum_function : TypeTree → TypeTree → ℕ → ℕ → Function
  accum_function U V c j =
      cell_function F.AccumBy V (event_ty U) (event_ty V) c
      (at_first (assign (kept_at 0) (register 0))
      ∷ branch (dot (local 2) 0) skip (answer (no_event_of V))
      ∷ define (c_type n (pair_ty V U)) (pair_of (kept_at 0) (dot (local 2) 1))
      ∷ leaf_call n Ps Os V j (register 1)
      ∷ assign (kept_at 0) (register 2)
      ∷ []) (event_of (register 2))

  -- `over`, the time left, the value
  abbrev pub after_function : ℕ → TypeTree → TypeTree → ℕ → Function
  after_function q V A c =
      cell_function (F.After q) V A (event_ty V) c
      (at_first
      (sequence (assign (kept_at 0) (boolean false))
      (sequence (assign (kept_at 1) (number_term q)) (assign (kept_at 2) (register 0))))
      ∷ branch (both (inverse (kept_at 0)) (binary at_most i64 (kept_at 1) (local 1)))
      (sequence (assign (kept_at 0) (boolean true)) (answer (event_of (kept_at 2)))) skip
      ∷ branch (kept_at 0) skip (assign (kept_at 1) (binary minus i64 (kept_at 1) (local 1)))
      ∷ []) (no_event_of V)

  -- the time left to the next multiple, the value
  abbrev pub repeatedly_function : ℕ → TypeTree → TypeTree → ℕ → Function
  repeatedly_function q V A c =
      cell_function (F.Repeatedly q) V A (event_ty V) c
      (at_first (sequence (assign (kept_at 0) (number_term q)) (assign (kept_at 1) (register 0)))
      ∷ branch (binary at_most i64 (kept_at 0) (local 1))
      (sequence
      (assign (kept_at 0)
      (binary minus i64 (number_term q)
      (binary remainder i64 (binary minus i64 (local 1) (kept_at 0)) (number_term q))))
      (answer (event_of (kept_at 1)))) skip
      ∷ assign (kept_at 0) (binary minus i64 (kept_at 0) (local 1))
      ∷ []) (no_event_of V)

  abbrev pub time_function : TypeTree → TypeTree → Function
  time_function V A =
      stepping n Ps Os (keeps_cell F.Time V) A int_ty
      (lines (assign (kept_at 0) (choice is_first (number_term 0) (modular plus (kept_at 0) (local 1))) ∷ [])
      (answer (kept_at 0)))

  -- the sum, and the sample before
  abbrev pub integral_function : TypeTree → Function
  integral_function V =
      stepping n Ps Os (keeps_cell F.Integral V) int_ty int_ty
      (lines
      (assign (kept_at 0)
      (choice is_first (number_term 0)
      (modular plus (kept_at 0) (modular times (local 1) (kept_at 1))))
      ∷ assign (kept_at 1) (local 2)
      ∷ []) (answer (kept_at 0)))

  -- over these functions
  module _ (G : ℕ → Linked) where
    -- a cell's function does the cell's step, from the constant that it calls
    abbrev pub CellLaw : Form → TypeTree → TypeTree → TypeTree → (ℕ → Function) → Type 0
    CellLaw form V A B f = (c : ℕ) (v : List Datum → Datum) → IsConstant n Ps V v (G c)
        → Right n Ps Os (keeps_cell form V) A B (λ g. cell_form_step form (v g.params) no_leaf)
        (function_run G (f c))

    abbrev pub IPreLaw : Type 0
    IPreLaw = (V : TypeTree) → CellLaw F.IPre V V V (i_pre_function V)

    abbrev pub HoldLaw : Type 0
    HoldLaw = (V : TypeTree) → CellLaw F.Hold V (event_ty V) V (hold_function V)

    abbrev pub AfterLaw : Type 0
    AfterLaw = (q : ℕ) (V A : TypeTree) → q ≤ 2 ^ 62
        → CellLaw (F.After q) V A (event_ty V) (after_function q V A)

    abbrev pub RepeatedlyLaw : Type 0
    RepeatedlyLaw = (q : ℕ) (V A : TypeTree) → 1 ≤ q → q ≤ 2 ^ 62
        → CellLaw (F.Repeatedly q) V A (event_ty V) (repeatedly_function q V A)

    abbrev pub AccumLaw : Type 0
    AccumLaw = (U V : TypeTree) (c j : ℕ) (v : List Datum → Datum) (e : List Datum → Datum → Datum)
        → IsConstant n Ps V v (G c) → Computes n Ps (pair_ty V U) V e (G j)
        → Right n Ps Os (keeps_cell F.AccumBy V) (event_ty U) (event_ty V)
        (λ g. cell_form_step F.AccumBy (v g.params) (e g.params))
        (function_run G (accum_function U V c j))

    abbrev pub TimeLaw : Type 0
    TimeLaw = (V A : TypeTree)
        → Right n Ps Os (keeps_cell F.Time V) A int_ty (λ g. cell_form_step F.Time unit no_leaf)
        (function_run G (time_function V A))

    abbrev pub IntegralLaw : Type 0
    IntegralLaw = (V : TypeTree)
        → Right n Ps Os (keeps_cell F.Integral V) int_ty int_ty
        (λ g. cell_form_step F.Integral unit no_leaf) (function_run G (integral_function V))
