use Rattle.std.proofs.Common.{drop}
use Rattle.leaf_code.specs.CodeView.{steps_in}
use Rattle.leaf_code.specs.Fitting.{ListsWithin}
use Rattle.code_fits.specs.Tables.{bound_of}
use Rattle.code_fits.proofs.around.steps_within.Given as goal

-- where those to come are, all are
abbrev pub invariant-loop-step : goal.invariant-loop-step
invariant-loop-step l =
    ListsWithin (bound_of l.types l.bounds) (steps_in (drop l.step-index l.steps))
    → ListsWithin (bound_of l.types l.bounds) (steps_in l.steps)
