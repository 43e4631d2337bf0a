-- What is added to cells.
use Rattle.std.specs.Prelude.{◌≡◌, ℕ, List, [], ◌∷◌, ◌++◌}
use Rattle.sample_core.specs.Datum.{Datum}
use Rattle.cell_core.specs.Cell.{Cell, cell_step}

-- what a cell is after the sample x was added, and y is its answer
abbrev pub IsStepAdded : List Cell → Cell → ℕ × Datum → List Cell → Datum → Type 0
IsStepAdded before k x now y = (next : Cell) × (cell_step k x ≡ (next, y))
    × (now ≡ before ++ next ∷ [])
