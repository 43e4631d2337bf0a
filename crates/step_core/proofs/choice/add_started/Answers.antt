use Rattle.std.proofs.Common.{arith}
use Rattle.state_core.specs.RowsView.{rows_in}
use Rattle.state_core.specs.StateView.{scope_of}
use Rattle.step_core.proofs.ListedMembers.{started_end}
use Rattle.step_core.proofs.choice.add_started.Goals as goal

pub returns : goal.returns
returns g c =
    started_end _ _ (rows_in c.args.net.now) (scope_of c.args.on.now.env.now) c.args.values.now _ _ _ _ c.loop-value.invariant c.min-room.ensures
    c.saturating_sub.ensures (omega (arith, c.args.chosen.now.ok.0, c.len.ensures)) c.loop-value-test.false
