use Rattle.std.proofs.Common.{sym, ap, ◌∙◌}
use Rattle.step_core.specs.Flow.{past_in}
use Rattle.step_core.proofs.RunJoins.{if_ok}
use Rattle.step_core.proofs.Switches.{placed_found}
use Rattle.step_core.proofs.fire.frozen_at.Goals as goal

pub returns-in-Some-get : goal.returns-in-Some-get
returns-in-Some-get g c =
    if_ok c.pause.result _ _
    (λ f h. h ∙ sym (placed_found _ _ _ _ _ _ _ (ap (λ b. past_in b c.args.on.now.dt) c.in-Some.is) c.in-Some-get.ensures)) c.pause.ensures
