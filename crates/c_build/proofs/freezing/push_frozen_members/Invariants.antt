use Rattle.std.proofs.Common.{◌≡◌, ◌-◌}
use Rattle.c_forms.specs.Freezing.{frozen_members}
use Rattle.c_build.specs.Symbols.{and_arguments}
use Rattle.c_build.specs.Scopes.{made}
use Rattle.c_build.proofs.freezing.push_frozen_members.Given as goal

-- what is passed, with what is to come, is all
abbrev pub invariant-loop-i : goal.invariant-loop-i
invariant-loop-i l =
    and_arguments (frozen_members l.i (l.count - l.i)) (made l.scope l.out.items)
    ≡ and_arguments (frozen_members 0 l.count) (made l.scope l.initial.out.items)
