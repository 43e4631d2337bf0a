use Rattle.std.proofs.Common.{◌≡◌, ◌++◌, string_bytes, drop, map}
use Rattle.net_tree.specs.LawStep.{step_of}
use Rattle.net_text.specs.CertificatePrinting.{step_lines, certificate_spelling}
use Rattle.net_text.proofs.print_certificate.print_cert.Given as goal

-- what stands there, and the lines of the steps to come, is the whole
abbrev pub invariant-loop-step : goal.invariant-loop-step
invariant-loop-step l = string_bytes l.text ++ step_lines (map step_of (drop l.step-index l.steps)) ≡ certificate_spelling (map step_of l.steps)
