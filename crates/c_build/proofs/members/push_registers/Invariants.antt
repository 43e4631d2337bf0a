use Rattle.std.proofs.Common.{◌≡◌, ◌-◌, List}
use Rattle.sample_core.specs.TypeTree.{TypeTree}
use Rattle.leaf_code.specs.Fitting.{Bounds}
use Rattle.c_forms.specs.Keeping.{Shape}
use Rattle.c_build.specs.Scopes.{Counts, made}
use Rattle.c_build.specs.Making.{and_terms, registers_from}
use Rattle.c_build.proofs.members.push_registers.Given as goal

abbrev pub invariant-loop-i : goal.invariant-loop-i
invariant-loop-i l = (n : Bounds) (Ps : List TypeTree) (Os : List Shape)
    → Counts l.scope Ps Os
    → and_terms (registers_from n Ps Os l.i (l.count - l.i)) (made l.scope l.out.items)
    ≡ and_terms (registers_from n Ps Os 0 l.count) (made l.scope l.initial.out.items)
