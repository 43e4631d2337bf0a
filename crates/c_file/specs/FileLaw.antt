-- What the C of a program outputs.
use Rattle.std.specs.Prelude.{◌≡◌, ℕ, true, false, List, [], ◌∷◌, Some}
use Rattle.sample_core.specs.Datum.{Datum}
use Rattle.sample_core.specs.TypeTree.{TypeTree}
use Rattle.leaf_code.specs.Fitting.{Bounds}
use Rattle.net_meaning.specs.SignalFunction.{TimedList}
use Rattle.net_meaning.specs.TypedNetwork.{TypedNetwork, HasItsTypes, stream_of}
use Rattle.code_fits.specs.declared.layout.Program.{Program}
use Rattle.code_fits.specs.Programs.{IsProgramOf}
use Rattle.code_fits.specs.FitLaw.{SamplesFit}
use Rattle.code_fits.specs.Room.{all_at}
use Rattle.code_fits.specs.Tables.{bound_of}
use Rattle.c_meaning.specs.Object.{Object, end, has_type}
use Rattle.c_meaning.specs.Syntax.{File}
use Rattle.c_meaning.specs.Meaning.{Linked, numbered, link}
use Rattle.c_file.specs.ProgramC.{state_type, whole_of, c_of_program, checked_program, init_number, step_number}
use Rattle.c_file.specs.Samples.{Handed, Hands, Outputs, HandedFor, Calls, Answers}

-- the bounds of a program
abbrev pub bounds : Program → Bounds
bounds p = bound_of p.types p.bounds.items

-- function k of a file
abbrev pub c_function : File → ℕ → Linked
c_function a = numbered (link [] a)

-- from any state on, `init` leaves one, from which `step` outputs these values
pub record Streams (p : Program) (B : TypeTree) (s : Object) (hs : List Handed) (vs : List Datum)
    : Type 0 where
  pub state : Object
  pub starts : c_function (c_of_program p) (init_number p) (s ∷ []) ≡ Some (state ∷ [], end)
  pub outputs : Outputs (bounds p) B (c_function (c_of_program p) (step_number p)) state hs vs

-- the C of a typed network's program, run on any samples that are handed over, has a result at each, so
-- that nothing undefined happens, and outputs the network's stream
abbrev pub FileLaw : Type 0
FileLaw = (t : TypedNetwork) (most : ℕ) (p : Program) → HasItsTypes t → IsProgramOf t most p
    → (s : Object) → has_type (state_type (bounds p) (whole_of p).shape) s ≡ true
    → (xs : TimedList) (hs : List Handed) → Hands (bounds p) t.input t.output false xs hs
    → Streams p t.output s hs (stream_of t.net xs)

-- the same of a `step` that answers whether it did one
pub record CheckedStreams (p : Program) (B : TypeTree) (s : Object) (hs : List Handed) (vs : List Datum)
    : Type 0 where
  pub state : Object
  pub starts : c_function (checked_program p) (init_number p) (s ∷ []) ≡ Some (state ∷ [], end)
  pub answers : Answers (bounds p) B (c_function (checked_program p) (step_number p)) state hs vs

-- with the checked step on whatever calls: it refuses those with a dt below 1 after the first sample, and
-- outputs the stream of the others
abbrev pub CheckedFileLaw : Type 0
CheckedFileLaw = (t : TypedNetwork) (most : ℕ) (p : Program) → HasItsTypes t → IsProgramOf t most p
    → (s : Object) → has_type (state_type (bounds p) (whole_of p).shape) s ≡ true
    → (xs : TimedList) (hs : List Handed) → Calls (bounds p) t.input t.output false xs hs
    → CheckedStreams p t.output s hs (stream_of t.net xs)

-- all samples of the input's type, whose lists have at most so many elements, can be handed over
abbrev pub HandsLaw : Type 0
HandsLaw = (t : TypedNetwork) (most : ℕ) (p : Program) → IsProgramOf t most p
    → (xs : TimedList) → SamplesFit (all_at most) t.input false xs
    → HandedFor (bounds p) t.input t.output xs
