use Rattle.std.proofs.Common.{◌≡◌, take}
use Rattle.net_syntax.proofs.scope.copied_olds.Given as goal

abbrev pub invariant-loop-old : goal.invariant-loop-old
invariant-loop-old l = l.copied.items ≡ take l.old-index l.olds
