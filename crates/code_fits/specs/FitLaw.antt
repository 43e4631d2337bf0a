-- Code that fits its layouts keeps to them at each sample.
use Rattle.std.specs.Prelude.{◌≡◌, ◌≤◌, ◌<◌, ◌^◌, Bool, true, false, List, [], ◌∷◌, slice_get, Some}
use Rattle.sample_core.specs.TypeTree.{TypeTree}
use Rattle.leaf_code.specs.Fitting.{Bounds, Fits}
use Rattle.net_meaning.specs.SignalFunction.{TimedList}
use Rattle.net_machine.specs.Store.{Store}
use Rattle.net_code.specs.declared.statement.Function.{Function}
use Rattle.net_code.specs.Running.{latest}
use Rattle.net_code.specs.CodeView.{code_in}
use Rattle.code_fits.specs.Layouts.{Layout}
use Rattle.code_fits.specs.Rules.{CodeFits}
use Rattle.code_fits.specs.Standing.{Stand, AllStandWell, stands_of}

-- samples whose values fit, with steps from 1 to 2^63 - 1 behind the first
abbrev pub SamplesFit : Bounds → TypeTree → Bool → TimedList → Type 0
SamplesFit bound A b [] = Unit {0}
SamplesFit bound A false (x ∷ xs) = Fits bound x.1 A × SamplesFit bound A true xs
SamplesFit bound A true (x ∷ xs) =
    (1 ≤ x.0) × (x.0 < 2 ^ 63) × Fits bound x.1 A × SamplesFit bound A true xs

-- at each sample
abbrev pub AlwaysWell : Bounds → List (List Stand) → Type 0
AlwaysWell bound [] = Unit {0}
AlwaysWell bound (ws ∷ wss) = AllStandWell bound ws × AlwaysWell bound wss

-- where functions fit their layouts, and the last has nothing in scope, all that stands while they
-- run fits, whatever is kept at the start
abbrev pub FitLaw : Type 0
FitLaw = (bound : Bounds) (fs : List Function) (Ls : List Layout) (L : Layout)
    → CodeFits bound [] fs Ls → slice_get Ls (latest (code_in fs)) ≡ Some L
    → L.params ≡ [] → L.olds ≡ []
    → (s : Store) (xs : TimedList) → SamplesFit bound L.input false xs
    → AlwaysWell bound (stands_of (code_in fs) Ls s xs)
