use Rattle.std.proofs.Common.{◌≡◌, drop, map}
use Rattle.net_tree.specs.LawStep.{step_of}
use Rattle.net_text.specs.CertificatePrinting.{are_new_given}
use Rattle.net_text.proofs.print_certificate.are_new_given.Given as goal

-- nothing is new in the steps so far
abbrev pub invariant-loop-step : goal.invariant-loop-step
invariant-loop-step l = are_new_given (map step_of (drop l.step-index l.steps)) ≡ are_new_given (map step_of l.steps)
