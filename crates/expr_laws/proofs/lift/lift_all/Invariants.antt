use Rattle.std.proofs.Common.{◌-◌, length}
use Rattle.expr_laws.proofs.Lifting.{NoneIf}
use Rattle.expr_laws.proofs.lift.lift_all.Given as goal

-- the elements so far are no `if`
abbrev pub invariant-loop-k : goal.invariant-loop-k
invariant-loop-k l = NoneIf l.k l.all

abbrev pub decreases-loop-k : goal.decreases-loop-k
decreases-loop-k l = length l.all - l.k
