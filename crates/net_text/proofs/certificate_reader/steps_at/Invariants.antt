use Rattle.std.proofs.Common.{◌≡◌, length, map}
use Rattle.net_text.specs.ReadNet.{from_byte}
use Rattle.net_tree.specs.LawStep.{step_of}
use Rattle.net_text.specs.ReadCertificate.{steps_from}
use Rattle.net_text.proofs.CertificateRead.{with_steps}
use Rattle.net_text.proofs.certificate_reader.steps_at.Given as goal

-- the steps so far, and those that follow, are all
abbrev pub invariant-loop-alloc : goal.invariant-loop-alloc
invariant-loop-alloc l = with_steps (map step_of l.steps.items) (steps_from l.text l.next) ≡ steps_from l.text l.at

abbrev pub decreases-loop-alloc : goal.decreases-loop-alloc
decreases-loop-alloc l = length (from_byte l.next l.text)
