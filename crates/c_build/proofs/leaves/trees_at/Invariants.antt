use Rattle.std.proofs.Common.{◌≡◌, map, take}
use Rattle.sample_core.specs.TypeView.{type_of}
use Rattle.code_fits.specs.Tables.{trees_at}
use Rattle.c_build.proofs.leaves.trees_at.Given as goal

-- the types of the numbers so far
abbrev pub invariant-loop-number : goal.invariant-loop-number
invariant-loop-number l = map type_of l.all.items ≡ trees_at l.types (take l.number-index l.numbers)
