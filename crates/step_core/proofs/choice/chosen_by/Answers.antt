use Rattle.sample_core.specs.ValueView.{datum_of}
use Rattle.state_core.specs.RowsView.{rows_in}
use Rattle.state_core.specs.StateView.{scope_of}
use Rattle.step_core.proofs.ListedMembers.{chosen_listed}
use Rattle.step_core.proofs.choice.chosen_by.Goals as goal

pub returns-in-Ok : goal.returns-in-Ok
returns-in-Ok g c =
    chosen_listed _ _ _ (rows_in c.args.starts.now) (scope_of c.args.on.now.env.now) (datum_of c.args.which.now) _ _ _ c.left.ensures c.right.ensures
    c.elements.ensures c.in_ok-chosen.ensures c.in-Ok.ensures
