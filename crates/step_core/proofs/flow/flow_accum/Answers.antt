use Rattle.std.proofs.Common.{ap, refl}
use Rattle.sample_core.specs.ValueView.{datum_of}
use Rattle.step_core.specs.Flow.{past_in}
use Rattle.step_core.proofs.Flows.{accum_starts, accum_steps}
use Rattle.step_core.proofs.flow.flow_accum.Goals as goal

pub returns-in_ok-step_accum-in-Some-get : goal.returns-in_ok-step_accum-in-Some-get
returns-in_ok-step_accum-in-Some-get g c =
    let h = c.in_ok-step_accum-in-Some-get.ensures in
    accum_steps _ _ _ _ _ _ c.args.on.now.dt _ _ _ _ _ _ _ _ _ h.1 (ap (λ b. past_in b c.args.on.now.dt) c.in-Some.is) c.len.ensures
    c.in-Some-get.ensures refl refl h.2

pub returns-in_ok-push-in-None : goal.returns-in_ok-push-in-None
returns-in_ok-push-in-None g c =
    accum_starts _ _ _ _ _ _ _ _ _ _ _ _ c.in_ok-push-in-None.ensures (ap (λ b. past_in b c.args.on.now.dt) c.in-None.is) (ap datum_of c.put.ensures) refl
    c.in_ok-first-in-None.ensures
