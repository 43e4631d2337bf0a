use Rattle.std.proofs.Common.{◌≡◌, drop}
use Rattle.c_build.specs.Tables.{closed_from}
use Rattle.c_build.proofs.table.Table.new.Given as goal

-- those to come decide
abbrev pub invariant-loop-k : goal.invariant-loop-k
invariant-loop-k l = closed_from l.k (drop l.k l.structs) ≡ closed_from 0 l.structs
