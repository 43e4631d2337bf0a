-- The text of what came of steps.
use Rattle.std.specs.Prelude.{◌≡◌, ℕ, List, [], ◌∷◌, ◌++◌, Option, Some, None, codes}
use Rattle.leaf_core.specs.Expression.{Expression}
use Rattle.leaf_expr.specs.Sexpr.{sexpr_spelling}
use Rattle.net_tree.specs.Place.{Tree}
use Rattle.net_tree.specs.LawStep.{Step}
use Rattle.net_meaning.specs.TypedNetwork.{TypedNetwork}
use Rattle.net_text.specs.CertificatePrinting.{step_sexpr, tree_sexpr}
use Rattle.net_view.specs.Trace.{Changed, Stopped, IsTrace}
use Rattle.net_view.specs.Cut.{cut_pair}

-- a step's line
abbrev pub step_line : Step → List ℕ
step_line s = sexpr_spelling (step_sexpr s) ++ 10 ∷ []

-- the line of a tree behind a mark
abbrev pub marked_line : List ℕ → Tree Expression → List ℕ
marked_line mark tree = mark ++ (sexpr_spelling (tree_sexpr tree) ++ 10 ∷ [])

-- the lines of two texts, of what was there and of what is there now
abbrev pub pair_lines : List ℕ × List ℕ → List ℕ
pair_lines texts = codes "- " ++ (texts.0 ++ (codes "\n+ " ++ (texts.1 ++ 10 ∷ [])))

-- the lines of two trees, each cut, so that what differs is seen
abbrev pub cut_lines : Tree Expression → Tree Expression → List ℕ
cut_lines before after =
    pair_lines (cut_pair (sexpr_spelling (tree_sexpr before)) (sexpr_spelling (tree_sexpr after)))

-- the line of a tree, if there is one
abbrev pub marked_lines : List ℕ → Option (Tree Expression) → List ℕ
marked_lines mark None = []
marked_lines mark (Some tree) = marked_line mark tree

-- the lines of a step that was taken: its own, what stood at its position, what stands there now
abbrev pub change_lines : Step → Changed → List ℕ
change_lines s c = step_line s
    ++ (marked_line (codes "- ") c.before ++ marked_line (codes "+ ") c.after)

-- the lines of a step that was refused: its own, what stands at its position, what its law leads to
-- from the tree that it gives
abbrev pub stop_lines : Step → Option Stopped → List ℕ
stop_lines s None = []
stop_lines s (Some stop) = step_line s
    ++ (marked_lines (codes "- ") stop.there ++ marked_lines (codes "> ") stop.led)

-- the lines of steps that were taken, and of the one behind them, if it was refused
abbrev pub trace_lines : List Step → List Changed → Option Stopped → List ℕ
trace_lines [] cs stop = []
trace_lines (s ∷ ss) [] stop = stop_lines s stop
trace_lines (s ∷ ss) (c ∷ cs) stop = change_lines s c ++ trace_lines ss cs stop

-- the text tells what comes of the steps from t, of which the last one is this stop, if there is one
pub record TellsTrace (t : TypedNetwork) (ss : List Step) (stop : Option Stopped) (text : List ℕ)
    : Type 0 where
  pub changes : List Changed
  pub is : IsTrace t ss changes stop
  pub lines : text ≡ trace_lines ss changes stop
