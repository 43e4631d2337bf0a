use Rattle.std.proofs.Common.{ap, sym, ◌∙◌}
use Rattle.state_core.specs.RowsView.{rows_in}
use Rattle.state_core.specs.StateView.{frozen_from, scope_of}
use Rattle.step_core.proofs.RunJoins.{if_ok, ran_as}
use Rattle.step_core.proofs.runner.run_from.Goals as goal

pub returns-in_ok-going-in-Some : goal.returns-in_ok-going-in-Some
returns-in_ok-going-in-Some g c =
    let here = ap (λ o. frozen_from (rows_in c.args.net.now) (scope_of c.args.on.now.env.now) o c.args.on.now.dt) c.in-Some.is in
    if_ok c.run_over.result _ _ (λ n h. ran_as _ _ _ _ _ _ _ n (ap g.R.Rows.keys c.in_ok-going-in-Some.ensures.rows) (c.in_ok-going-in-Some.ensures.stands ∙ sym here) h)
    c.run_over.ensures
