use Rattle.std.proofs.Common.{◌+◌, map, refl, arith}
use Rattle.net_tree.specs.LawStep.{step_of}
use Rattle.cert_check.specs.StepAnswers.{StepsAnswer}
use Rattle.cert_check.specs.Derives.{no_step}
use Rattle.cert_check.proofs.Taken.{taken_more, fault_first, passed_on}
use Rattle.cert_check.proofs.derivation.take_steps.Goals as goal

pub loop-step-init : goal.loop-step-init
loop-step-init c = record { counted = refl; led = no_step }

pub returns-in_err-take_step : goal.returns-in_err-take_step
returns-in_err-take_step c =
    passed_on (StepsAnswer c.args.net.now (map step_of c.args.steps.now) c.take_step.new.net) c.from_residual.result c.in_err-take_step.field-0.0
    c.from_residual.ensures.1
    (fault_first Unit c.args.net.now c.loop-step.net c.take_step.new.net c.take_step.new.net c.args.steps.now c.loop-step.step-index c.step-item.result
    (c.loop-step.number + 1) c.in_err-take_step.field-0.0 c.loop-step-test.true c.step-item.is c.loop-step.invariant.led
    (omega arith) c.in_err-take_step.ensures)

pub loop-step-preserved : goal.loop-step-preserved
loop-step-preserved c = record {
  counted = omega arith;
  led = taken_more c.args.net.now c.loop-step.net c.take_step.new.net c.args.steps.now c.loop-step.step-index c.step-item.result c.loop-step-test.true c.step-item.is
      c.loop-step.invariant.led c.in_ok-take_step.ensures;
}
