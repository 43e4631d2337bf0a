use Rattle.std.proofs.Common.{◌≡◌, take}
use Rattle.c_build.proofs.table.same_types.Given as goal

-- so far they are the same
abbrev pub invariant-loop-i : goal.invariant-loop-i
invariant-loop-i l = take l.i l.a ≡ take l.i l.b
