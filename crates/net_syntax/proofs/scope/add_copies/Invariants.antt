use Rattle.std.proofs.Common.{◌≡◌, ◌++◌, map}
use Rattle.net_syntax.specs.ArrowView.{arrow_of}
use Rattle.net_meaning.specs.Typing.{copies}
use Rattle.net_syntax.proofs.scope.add_copies.Given as goal

abbrev pub invariant-loop : goal.invariant-loop
invariant-loop l = map arrow_of l.olds.items ≡ map arrow_of l.initial.olds.items ++ copies l.counter (arrow_of l.types)
