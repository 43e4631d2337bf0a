use Rattle.std.proofs.Common.{ap, refl, sym}
use Rattle.step_core.specs.Flow.{past_in}
use Rattle.step_core.proofs.Flows.{cell_steps}
use Rattle.step_core.proofs.flow.flow_cell.Goals as goal

pub returns-in_ok-push_step-in-Some-get : goal.returns-in_ok-push_step-in-Some-get
returns-in_ok-push_step-in-Some-get g c =
    let h = c.in_ok-push_step-in-Some-get.ensures in
    cell_steps _ _ _ _ _ _ _ c.args.on.now.dt _ _ _ _ _ _ _ _ _ c.requires.2 h.2 (ap (λ b. past_in b c.args.on.now.dt) c.in-Some.is) c.len.ensures
    c.in-Some-get.ensures refl refl (sym h.1)
