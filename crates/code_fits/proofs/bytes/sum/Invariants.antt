use Rattle.std.proofs.Common.{◌≡◌, ℕ, List, map, take}
use Rattle.code_fits.specs.Saturated.{saturated}
use Rattle.code_fits.specs.Sizes.{sizes_at}
use Rattle.code_fits.proofs.bytes.sum.Given as goal

-- the sum so far
abbrev pub invariant-loop-k : goal.invariant-loop-k
invariant-loop-k l = (ns : List ℕ) → l.all ≡ map saturated ns → l.bytes ≡ saturated (sizes_at ns (take l.k-index l.ks))
