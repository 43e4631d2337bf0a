-- How long lists may be that a place of C has room for.
use Rattle.std.specs.Prelude.{◌≤◌, ℕ}
use Rattle.sample_core.specs.TypeTree.{TypeTree, pair_ty, event_ty, list_ty}
use Rattle.leaf_code.specs.Fitting.{Bounds}

-- lists of every type have at most so many elements
abbrev pub all_at : ℕ → Bounds
all_at most A = most

-- each list in a value of the type may have so many elements
abbrev pub HasRoom : Bounds → ℕ → TypeTree → Type 0
HasRoom bound most (pair_ty A B) = HasRoom bound most A × HasRoom bound most B
HasRoom bound most (event_ty A) = HasRoom bound most A
HasRoom bound most (list_ty A) = (most ≤ bound A) × HasRoom bound most A
HasRoom bound most A = Unit {0}
