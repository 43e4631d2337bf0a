use Rattle.std.proofs.Common.{ap, map}
use Rattle.state_core.specs.RowsView.{rows_in}
use Rattle.step_core.proofs.Lowerings.{all_filled}
use Rattle.step_core.proofs.lowering.+lower.Goals as goal

pub lower_all-returns : goal.lower_all-returns
lower_all-returns t c = all_filled c.args.fs.now _ _ _ _ _ _ c.as_slice.ensures c.in_ok-all.ensures (ap (map rows_in) c.new-all.ensures.items)
    c.in_ok-rest.ensures
