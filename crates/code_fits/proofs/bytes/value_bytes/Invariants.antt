use Rattle.std.proofs.Common.{◌≡◌, length}
use Rattle.code_fits.specs.Saturated.{AreSizes}
use Rattle.code_fits.proofs.bytes.value_bytes.Given as goal

-- the sizes of the types so far
abbrev pub invariant-loop-k : goal.invariant-loop-k
invariant-loop-k l = (length l.all.items ≡ l.k) × AreSizes l.types l.bounds l.all.items
