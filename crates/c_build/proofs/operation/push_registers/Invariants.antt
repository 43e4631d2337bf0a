use Rattle.std.proofs.Common.{◌≡◌, drop}
use Rattle.c_build.specs.Scopes.{made}
use Rattle.c_build.specs.Making.{and_terms}
use Rattle.c_build.specs.LeafLines.{registers_at}
use Rattle.c_build.proofs.operation.push_registers.Given as goal

-- what stands there, with the registers to come, is the whole
abbrev pub invariant-loop-k : goal.invariant-loop-k
invariant-loop-k l =
    and_terms (registers_at l.lines (drop l.k-index l.registers)) (made l.lines.frame.scope l.out.items)
    ≡ and_terms (registers_at l.lines l.registers) (made l.lines.frame.scope l.initial.out.items)
