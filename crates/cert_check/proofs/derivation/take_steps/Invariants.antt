use Rattle.std.proofs.Common.{◌≡◌, map, take}
use Rattle.net_tree.specs.LawStep.{step_of}
use Rattle.cert_check.specs.Derives.{Steps}
use Rattle.cert_check.proofs.derivation.take_steps.Given as goal

abbrev pub invariant-loop-step : goal.invariant-loop-step
invariant-loop-step l = record {
  counted : l.number ≡ l.step-index;
  led : Steps l.fn.net (map step_of (take l.step-index l.steps)) l.net;
}
