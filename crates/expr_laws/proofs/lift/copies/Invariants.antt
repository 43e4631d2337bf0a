use Rattle.std.proofs.Common.{◌≡◌, take}
use Rattle.expr_laws.proofs.lift.copies.Given as goal

abbrev pub invariant-loop-element : goal.invariant-loop-element
invariant-loop-element l = l.copied.items ≡ take l.element-index l.all
