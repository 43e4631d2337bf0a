use Rattle.std.proofs.Common.{◌≡◌, ◌-◌, suc, length}
use Rattle.c_text.specs.Used.{mark}
use Rattle.c_text.proofs.used.mark.Given as goal

-- so far nothing has changed
abbrev pub invariant-loop-used : goal.invariant-loop-used
invariant-loop-used l = mark l.k l.used.items ≡ mark l.k l.initial.used.items

abbrev pub decreases-loop-used : goal.decreases-loop-used
decreases-loop-used l = suc l.k - length l.used.items
