-- The outline and the steps that may be taken, as they are printed.
use Rattle.std.specs.Prelude.{◌≡◌, ℕ, List, [], ◌∷◌, ◌++◌, Option, Some, None}
use Rattle.std.specs.Fmt.{decimal}
use Rattle.sample_core.specs.Spelling.{type_spelling}
use Rattle.leaf_core.specs.Expression.{Expression}
use Rattle.leaf_expr.specs.Sexpr.{Sexpr, atom, form}
use Rattle.net_tree.specs.Place.{Tree}
use Rattle.net_tree.specs.Position.{position_spelling}
use Rattle.net_meaning.specs.TypedNetwork.{TypedNetwork}
use Rattle.net_text.specs.CertificatePrinting.{tree_sexpr}
use Rattle.net_view.specs.Outline.{OutlinedLine, IsOutline}
use Rattle.net_view.specs.Possible.{Possible, ArePossible}
use Rattle.net_view.specs.TraceText.{step_line, cut_lines}

-- the word that a part begins with, or is
abbrev pub first_word : Sexpr → List ℕ
first_word (atom w) = w
first_word (form w ps) = w

-- the word of a tree's form; of a literal its own text
abbrev pub tree_word : Tree Expression → List ℕ
tree_word u = first_word (tree_sexpr u)

-- two blanks for each child number
abbrev pub indent : List ℕ → List ℕ
indent [] = []
indent (k ∷ p) = 32 ∷ 32 ∷ indent p

-- a tab and the weight, if there is one
abbrev pub weight_spelling : Option ℕ → List ℕ
weight_spelling None = []
weight_spelling (Some w) = 9 ∷ decimal w

-- a line: the position, indented, the form, the type, and of networks the weight, parted by tabs
abbrev pub line_spelling : OutlinedLine → List ℕ
line_spelling r = indent r.position
    ++ (position_spelling r.position
    ++ (9 ∷ (tree_word r.tree
    ++ (9 ∷ (type_spelling r.output ++ (weight_spelling r.weight ++ 10 ∷ []))))))

-- the lines, one behind another
abbrev pub lines_spelling : List OutlinedLine → List ℕ
lines_spelling [] = []
lines_spelling (r ∷ rs) = line_spelling r ++ lines_spelling rs

-- the lines of the network's outline
abbrev pub OutlineText : TypedNetwork → List ℕ → Type 0
OutlineText t bytes = (lines : List OutlinedLine) × IsOutline t lines × (bytes ≡ lines_spelling lines)

-- three lines: the step as certificates have it, what stands at its position, what stands there then
abbrev pub possible_spelling : Possible → List ℕ
possible_spelling x = step_line x.step ++ cut_lines x.change.before x.change.after

-- the same of steps
abbrev pub possibles_spelling : List Possible → List ℕ
possibles_spelling [] = []
possibles_spelling (x ∷ xs) = possible_spelling x ++ possibles_spelling xs

-- the lines of the steps at or below p that may be taken
abbrev pub PossibleText : TypedNetwork → List ℕ → List ℕ → Type 0
PossibleText t p bytes = (xs : List Possible) × ArePossible t p xs × (bytes ≡ possibles_spelling xs)
