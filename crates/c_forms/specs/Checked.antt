-- `bool P_step(struct P_state *state, int64_t dt, const A *input, B *output)`, which refuses a `dt` below 1 after the
-- first sample.
use Rattle.std.specs.Prelude.{◌≡◌, ℕ, ℤ, pos, Bool, true, false, int_lt, FitsSigned, List, [], ◌∷◌, Option, Some}
use Rattle.std.specs.Int.{w64}
use Rattle.sample_core.specs.Datum.{Datum}
use Rattle.sample_core.specs.TypeTree.{TypeTree}
use Rattle.leaf_code.specs.Fitting.{Bounds}
use Rattle.net_machine.specs.Store.{Moment, start, step, Store}
use Rattle.net_machine.specs.Stepper.{Stepper}
use Rattle.net_code.specs.Running.{Given, nothing_given}
use Rattle.c_meaning.specs.Object.{truth_type, number_type, i64, Object, truth, number, has_type}
use Rattle.c_meaning.specs.Syntax.{less, Term, local, dot, boolean, literal, binary, both, choice, value_param, const_param, pointer_param, by_value, by_const, by_pointer, Command, skip, define, assign, call, branch, answer, Function}
use Rattle.c_meaning.specs.Meaning.{Linked, function_run}
use Rattle.c_leaf.specs.Representing.{two, two_types, c_type, Represents}
use Rattle.c_forms.specs.Keeping.{Shape, shape_type, Keeps, MomentFits}
use Rattle.c_forms.specs.Standing.{Right}
use Rattle.c_forms.specs.Forms.{lines}

-- `state->started`, `state->s`
abbrev pub started_of : Term
started_of = dot (local 0) 0

abbrev pub all_of : Term
all_of = dot (local 0) 1

-- `state->started && (dt < 1)`
abbrev pub too_early : Term
too_early = both started_of (binary less i64 (local 1) (literal i64 (pos 1)))

-- function j does the step, at the first sample with 0 in place of `dt`
abbrev pub checked_body : Bounds → TypeTree → ℕ → Command
checked_body n B j =
    lines
    (branch too_early (answer (boolean false)) skip
    ∷ define (number_type i64) (choice started_of (local 1) (literal i64 (pos 0)))
    ∷ assign started_of (boolean true)
    ∷ call (c_type n B) j (by_pointer all_of ∷ by_value (local 4) ∷ by_const (local 2) ∷ [])
    ∷ assign (local 3) (local 5)
    ∷ []) (answer (boolean true))

abbrev pub checked_function : Bounds → Shape → TypeTree → TypeTree → ℕ → Function
checked_function n S A B j = record {
  params = pointer_param (two_types truth_type (shape_type n S)) ∷ value_param (number_type i64)
      ∷ const_param (c_type n A) ∷ pointer_param (c_type n B) ∷ [];
  result = truth_type;
  body = checked_body n B j;
}

-- before the first sample what is kept may be anything
abbrev pub KeptFrom : Bounds → Bool → Shape → Store → Object → Type 0
KeptFrom n false S s o = has_type (shape_type n S) o ≡ true
KeptFrom n true S s o = Keeps n S s o

-- the moment of a sample
pub data Comes : Bool → ℤ → Moment → Type 0 where
  comes_first : {z : ℤ} → Comes false z start
  comes_later : {d : ℕ} → MomentFits (step d) → Comes true (pos d) (step d)

-- the step is done, and `true`
pub record Accepts (n : TypeTree → ℕ) (S : Shape) (B : TypeTree) (r : Store × Datum) (z i : Object)
    (c : Option (List Object × Object)) : Type 0 where
  pub state : Object
  pub answer : Object
  pub result : c ≡ Some (two (truth true) state ∷ z ∷ i ∷ answer ∷ [], truth true)
  pub keeps : Keeps n S r.0 state
  pub represents : Represents n B r.1 answer

-- whatever `dt` is: below 1 after the first sample nothing changes, and it returns `false`; else it
-- does the step
abbrev pub CheckedLaw : Type 0
CheckedLaw = (n : Bounds) (F : ℕ → Linked) (j : ℕ) (S : Shape) (A B : TypeTree) (f : Given → Stepper)
    → Right n [] [] S A B f (F j) → (b : Bool) (z : ℤ) (s : Store) (x : Datum) (o i y : Object)
    → FitsSigned w64 z → KeptFrom n b S s o → Represents n A x i → has_type (c_type n B) y ≡ true
    → (b ≡ true → int_lt z (pos 1) ≡ true
    → function_run F (checked_function n S A B j) (two (truth b) o ∷ number i64 z ∷ i ∷ y ∷ [])
    ≡ Some (two (truth b) o ∷ number i64 z ∷ i ∷ y ∷ [], truth false))
    × ((m : Moment) → Comes b z m
    → Accepts n S B (f nothing_given s (m, x)) (number i64 z) i
    (function_run F (checked_function n S A B j) (two (truth b) o ∷ number i64 z ∷ i ∷ y ∷ [])))
