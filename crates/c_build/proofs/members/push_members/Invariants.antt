use Rattle.std.proofs.Common.{◌≡◌, ◌≤◌, List, drop, length}
use Rattle.sample_core.specs.TypeTree.{TypeTree}
use Rattle.leaf_code.specs.Fitting.{Bounds}
use Rattle.c_forms.specs.Keeping.{Shape}
use Rattle.c_build.specs.Scopes.{Counts, IsType, made}
use Rattle.c_build.specs.Making.{and_commands, calls_from}
use Rattle.c_build.proofs.members.push_members.Given as goal

abbrev pub invariant-loop-i : goal.invariant-loop-i
invariant-loop-i l = (n : Bounds) (Ps : List TypeTree) (Os : List Shape) (B : TypeTree)
    → Counts l.scope Ps Os → IsType l.scope n l.element B
    → and_commands (calls_from n Ps Os B l.i (drop l.i l.js)) (made l.scope l.out.items)
    ≡ and_commands (calls_from n Ps Os B 0 l.js) (made l.scope l.initial.out.items)
