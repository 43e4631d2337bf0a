use Rattle.std.proofs.Common.{◌≡◌, ◌-◌, ◌+◌, ◌*◌}
use Rattle.c_forms.specs.Standing.{old_args}
use Rattle.c_build.specs.Symbols.{and_arguments}
use Rattle.c_build.specs.Scopes.{made}
use Rattle.c_build.proofs.scope.Scope.push_pairs.Given as goal

-- what is passed, with what is to come, is all
abbrev pub invariant-loop-i : goal.invariant-loop-i
invariant-loop-i l =
    and_arguments (old_args (l.k + 2 * l.i) (l.count - l.i)) (made l.self l.out.items)
    ≡ and_arguments (old_args l.k l.count) (made l.self l.initial.out.items)
