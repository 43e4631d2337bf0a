-- The samples behind as a list.
use Rattle.std.specs.Prelude.{ℕ, List, [], ◌∷◌, ◌++◌, reverse, Option, Some, None}
use Rattle.std.specs.declared.rc.Rc.{Rc}
use Rattle.std.specs.declared.alloc.Global.{Global}
use Rattle.sample_core.specs.Datum.{Datum}
use Rattle.cell_core.specs.declared.behind.Behind.{Behind}
use Rattle.cell_core.specs.declared.behind.Block.{Block}

-- the blocks of a link, the newest first, in each the oldest sample first
abbrev pub blocks : Option (Rc Block Global) → List (List (ℕ × Datum))
blocks None = []
blocks (Some b) = b.value.samples ∷ b.value.earlier

-- the samples of blocks, the newest first
abbrev pub in_blocks : List (List (ℕ × Datum)) → List (ℕ × Datum)
in_blocks [] = []
in_blocks (b ∷ bs) = reverse b ++ in_blocks bs

-- the samples behind, the newest first, each with its step since the one before it
abbrev pub back_of : Behind → List (ℕ × Datum)
back_of b = reverse b.recent ++ in_blocks b.earlier
