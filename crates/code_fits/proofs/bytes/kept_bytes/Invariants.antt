use Rattle.std.proofs.Common.{◌≡◌, ℕ, List, drop, map}
use Rattle.code_fits.specs.Saturated.{saturated}
use Rattle.code_fits.specs.Sizes.{kept_sizes, sizes_behind}
use Rattle.code_fits.specs.Tables.{bound_of, layout_of}
use Rattle.code_fits.proofs.bytes.kept_bytes.Given as goal

-- the sizes so far, behind which those of the functions to come make all
abbrev pub invariant-loop-k : goal.invariant-loop-k
invariant-loop-k l =
    (ns : List ℕ) × (l.all.items ≡ map saturated ns)
    × (sizes_behind (bound_of l.types l.bounds) ns (drop l.k l.functions) (map (layout_of l.types) (drop l.k l.layouts))
    ≡ kept_sizes (bound_of l.types l.bounds) l.functions (map (layout_of l.types) l.layouts))
