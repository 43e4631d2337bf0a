-- A `step` that also refuses an input with a list that is longer than its array.
use Rattle.std.specs.Prelude.{◌≡◌, ◌≤◌, ◌<◌, ◌^◌, ◌+◌, ◌-◌, ℕ, ℤ, pos, int_lt, FitsSigned, Bool, true, false, if◌then◌else◌, List, [], ◌∷◌, ◌++◌, map, length, Some}
use Rattle.std.specs.Int.{w64}
use Rattle.sample_core.specs.Datum.{Datum}
use Rattle.sample_core.specs.TypeTree.{TypeTree}
use Rattle.leaf_code.specs.Fitting.{Bounds}
use Rattle.net_meaning.specs.SignalFunction.{TimedList}
use Rattle.net_meaning.specs.TypedNetwork.{TypedNetwork, HasItsTypes, stream_of}
use Rattle.code_fits.specs.declared.layout.Program.{Program}
use Rattle.code_fits.specs.Programs.{IsProgramOf}
use Rattle.c_meaning.specs.Object.{Object, number, end, i64, truth_type, number_type, has_type}
use Rattle.c_meaning.specs.Syntax.{local, value_param, const_param, pointer_param, by_value, by_const, by_pointer, call, answer}
use Rattle.c_meaning.specs.Syntax as C
use Rattle.c_leaf.specs.Representing.{c_type, Represents}
use Rattle.c_leaf.specs.LeafC.{has_no_list, stop_unless}
use Rattle.c_leaf.specs.Within.{within_function, Offered}
use Rattle.c_forms.specs.Forms.{lines}
use Rattle.c_file.specs.Compared.{number_among, with_type}
use Rattle.c_file.specs.FunctionC.{Callee}
use Rattle.c_file.specs.ProgramC.{state_type, whole_of, checked_program, init_number, step_number}
use Rattle.c_file.specs.Samples.{Handed, handed, Answers}
use Rattle.c_file.specs.FileLaw.{bounds, c_function}

-- `bool step(struct state *state, int64_t dt, const A *input, B *output)`: function t tests the input,
-- and function j does the step
abbrev pub guarded_step : Bounds → Callee → ℕ → ℕ → C.Function
guarded_step n c t j = record {
  params = pointer_param (state_type n c.shape) ∷ value_param (number_type i64)
      ∷ const_param (c_type n c.input) ∷ pointer_param (c_type n c.output) ∷ [];
  result = truth_type;
  body = lines
      (call truth_type t (by_const (local 2) ∷ [])
      ∷ stop_unless (local 4)
      ∷ call truth_type j
      (by_pointer (local 0) ∷ by_value (local 1) ∷ by_const (local 2) ∷ by_pointer (local 3) ∷ [])
      ∷ []) (answer (local 5));
}

-- the types of an input that are tested, parts first
abbrev pub tested : TypeTree → List TypeTree
tested A = with_type A []

-- the functions that test them, the first of which is function k
abbrev pub testing_number : TypeTree → ℕ → TypeTree → ℕ
testing_number A k T = k + number_among (tested A) T

abbrev pub testing : Bounds → TypeTree → ℕ → C.File
testing n A k = map (within_function n (testing_number A k)) (tested A)

-- the guarded step behind a file, of which function j is the checked one; without lists nothing is behind it
abbrev pub and_guarded : Bounds → Callee → ℕ → C.File → C.File
and_guarded n c j a =
    if has_no_list c.input then a
    else a ++ (testing n c.input (length a)
    ++ guarded_step n c (testing_number c.input (length a) c.input) j ∷ [])

-- the C of a program with that step, its last function
abbrev pub guarded_program : Program → C.File
guarded_program p = and_guarded (bounds p) (whole_of p) (step_number p) (checked_program p)

abbrev pub guarded_number : Program → ℕ
guarded_number p = length (guarded_program p) - 1

-- a program calls: after the first sample a call whose dt is below 1 hands over none, nor does one with
-- a list that is longer than its array
pub data Offers (n : TypeTree → ℕ) (A B : TypeTree) : Bool → TimedList → List Handed → Type 0 where
  offers_none : {b : Bool} → Offers n A B b [] []
  offers_first : {d : ℕ} {z : ℤ} {v : Datum} {xs : TimedList} {i o : Object} {hs : List Handed}
      → FitsSigned w64 z → Represents n A v i → has_type (c_type n B) o ≡ true
      → Offers n A B true xs hs → Offers n A B false ((d, v) ∷ xs) (handed (number i64 z) i o ∷ hs)
  offers_next : {d : ℕ} {v : Datum} {xs : TimedList} {i o : Object} {hs : List Handed} → 1 ≤ d
      → d < 2 ^ 63 → Represents n A v i → has_type (c_type n B) o ≡ true → Offers n A B true xs hs
      → Offers n A B true ((d, v) ∷ xs) (handed (number i64 (pos d)) i o ∷ hs)
  offers_early : {z : ℤ} {v : Datum} {xs : TimedList} {i o : Object} {hs : List Handed}
      → FitsSigned w64 z → int_lt z (pos 1) ≡ true → Represents n A v i
      → has_type (c_type n B) o ≡ true → Offers n A B true xs hs
      → Offers n A B true xs (handed (number i64 z) i o ∷ hs)
  offers_long : {b : Bool} {z : ℤ} {xs : TimedList} {i o : Object} {hs : List Handed}
      → FitsSigned w64 z → Offered n A i false → has_type (c_type n B) o ≡ true
      → Offers n A B b xs hs → Offers n A B b xs (handed (number i64 z) i o ∷ hs)

-- from any state on, `init` leaves one, from which this step outputs these values
pub record GuardedStreams (p : Program) (B : TypeTree) (s : Object) (hs : List Handed) (vs : List Datum)
    : Type 0 where
  pub state : Object
  pub starts : c_function (guarded_program p) (init_number p) (s ∷ []) ≡ Some (state ∷ [], end)
  pub answers : Answers (bounds p) B (c_function (guarded_program p) (guarded_number p)) state hs vs

-- on whatever calls it refuses those with a dt below 1 after the first sample and those with a list that
-- is longer than its array, and outputs the stream of the others
abbrev pub GuardedFileLaw : Type 0
GuardedFileLaw = (t : TypedNetwork) (most : ℕ) (p : Program) → HasItsTypes t → IsProgramOf t most p
    → (s : Object) → has_type (state_type (bounds p) (whole_of p).shape) s ≡ true
    → (xs : TimedList) (hs : List Handed) → Offers (bounds p) t.input t.output false xs hs
    → GuardedStreams p t.output s hs (stream_of t.net xs)
