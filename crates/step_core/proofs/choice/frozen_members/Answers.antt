use Rattle.std.proofs.Common.{ap, ◌∙◌}
use Rattle.step_core.specs.Flow.{past_in}
use Rattle.step_core.proofs.ListedMembers.{before_listed}
use Rattle.step_core.proofs.RunJoins.{if_ok}
use Rattle.step_core.proofs.choice.frozen_members.Goals as goal

pub returns-in-Some : goal.returns-in-Some
returns-in-Some g c =
    if_ok c.paused_members.result _ _ (λ fs h. h ∙ before_listed _ _ _ _ _ _ (ap (λ b. past_in b c.args.on.now.dt) c.in-Some.is) c.as_slice.ensures)
    c.paused_members.ensures
