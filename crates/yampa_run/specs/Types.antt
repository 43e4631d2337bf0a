-- What the command `types` prints.
use Rattle.std.specs.Prelude.{ℕ, List, ◌++◌, codes}
use Rattle.std.specs.Fmt.{decimal}
use Rattle.sample_core.specs.Spelling.{type_spelling}
use Rattle.net_meaning.specs.TypedNetwork.{TypedNetwork}

-- a network's types in one line
abbrev pub arrow_line : TypedNetwork → List ℕ
arrow_line t = type_spelling t.input ++ (codes " -> " ++ type_spelling t.output)

-- the lines on a weight and a height, behind a line
abbrev pub size_lines : ℕ → ℕ → List ℕ
size_lines weight height = codes "\nweight "
    ++ (decimal weight ++ (codes "\nheight " ++ (decimal height ++ codes "\n")))

-- the lines of the command `types`
abbrev pub types_lines : TypedNetwork → List ℕ
types_lines t = arrow_line t ++ size_lines t.weight t.height
