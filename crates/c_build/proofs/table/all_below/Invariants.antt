use Rattle.std.proofs.Common.{◌≡◌, drop}
use Rattle.c_build.specs.Tables.{all_below}
use Rattle.c_build.proofs.table.all_below.Given as goal

-- those to come decide
abbrev pub invariant-loop-ty : goal.invariant-loop-ty
invariant-loop-ty l = all_below l.k (drop l.ty-index l.types) ≡ all_below l.k l.types
