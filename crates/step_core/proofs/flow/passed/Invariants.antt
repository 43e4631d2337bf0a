use Rattle.std.proofs.Common.{◌≡◌}
use Rattle.state_core.specs.RowsView.{rows_in}
use Rattle.state_core.specs.Tree.{passed}
use Rattle.step_core.proofs.flow.passed.Given as goal

abbrev pub invariant-openings : goal.invariant-openings
invariant-openings l = passed (rows_in l.rest) ≡ passed (rows_in l.net)
