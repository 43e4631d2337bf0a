use Rattle.std.proofs.Common.{◌≡◌, ◌-◌}
use Rattle.c_forms.specs.Standing.{param_args}
use Rattle.c_build.specs.Symbols.{and_arguments}
use Rattle.c_build.specs.Scopes.{made}
use Rattle.c_build.proofs.scope.Scope.push_locals.Given as goal

-- what is passed, with what is to come, is all
abbrev pub invariant-loop-i : goal.invariant-loop-i
invariant-loop-i l =
    and_arguments (param_args l.i (l.end - l.i)) (made l.self l.out.items)
    ≡ and_arguments (param_args l.k l.count) (made l.self l.initial.out.items)
