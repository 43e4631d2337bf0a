use Rattle.std.proofs.Common.{◌≡◌, length}
use Rattle.net_text.specs.ReadNet.{from_byte}
use Rattle.leaf_expr.proofs.ItemSteps.{with_front}
use Rattle.net_text.specs.ReadCertificate.{children_from}
use Rattle.net_text.proofs.certificate_reader.children_at.Given as goal

-- the child numbers so far, and those that follow, are all
abbrev pub invariant-loop-end : goal.invariant-loop-end
invariant-loop-end l = with_front l.path.items (children_from l.text l.next) ≡ children_from l.text l.at

abbrev pub decreases-loop-end : goal.decreases-loop-end
decreases-loop-end l = length (from_byte l.next l.text)
