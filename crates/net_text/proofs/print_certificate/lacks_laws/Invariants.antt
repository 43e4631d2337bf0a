use Rattle.std.proofs.Common.{◌≡◌, drop, map}
use Rattle.net_tree.specs.LawStep.{step_of}
use Rattle.net_text.specs.CertificatePrinting.{lacks_laws}
use Rattle.net_text.specs.Form.{version_of}
use Rattle.net_text.proofs.print_certificate.lacks_laws.Given as goal

-- the version has the laws of the steps so far
abbrev pub invariant-loop-step : goal.invariant-loop-step
invariant-loop-step l = lacks_laws (version_of l.version) (map step_of (drop l.step-index l.steps)) ≡ lacks_laws (version_of l.version) (map step_of l.steps)
