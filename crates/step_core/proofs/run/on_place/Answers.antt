use Rattle.std.proofs.Common.{ap, sym, ◌∙◌}
use Rattle.state_core.specs.RowsView.{rows_in}
use Rattle.state_core.specs.StateView.{scope_of}
use Rattle.step_core.specs.Flow.{past_in}
use Rattle.step_core.proofs.RunJoins.{if_ok}
use Rattle.step_core.proofs.Switches.{placed_found}
use Rattle.step_core.proofs.run.on_place.Goals as goal

pub returns-in-Some-get-clause-stands : goal.returns-in-Some-get-clause-stands
returns-in-Some-get-clause-stands g c =
    let here = placed_found (rows_in c.args.net.now) (scope_of c.args.on.now.env.now) _ _ _ c.args.at _ (ap (λ b. past_in b c.args.on.now.dt) c.in-Some.is)
    c.in-Some-get.ensures in
    if_ok c.on_state.result _ _ (λ r h. h ∙ sym here) c.on_state.ensures.stands
