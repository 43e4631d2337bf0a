-- Positions: child numbers from the root, and how they are printed.
use Rattle.std.specs.Prelude.{ℕ, List, [], ◌∷◌, ◌++◌, codes}
use Rattle.std.specs.Fmt.{decimal}

-- each child number with a space before it
abbrev pub child_numbers : List ℕ → List ℕ
child_numbers [] = []
child_numbers (k ∷ ks) = codes " " ++ (decimal k ++ child_numbers ks)

-- the bytes of a position: `(at 0 1)`, and `(at)` of the root
abbrev pub position_spelling : List ℕ → List ℕ
position_spelling path = codes "(at" ++ (child_numbers path ++ codes ")")
