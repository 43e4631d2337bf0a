-- The outline of a network: a line for each position that is there.
use Rattle.std.specs.Prelude.{◌≡◌, ℕ, List, [], map, min, Option, Some, None}
use Rattle.std.specs.List.{All}
use Rattle.sample_core.specs.TypeTree.{TypeTree}
use Rattle.sample_core.specs.TypeView.{type_of}
use Rattle.leaf_core.specs.Expression.{Expression}
use Rattle.net_tree.specs.Place.{Tree, a_network, a_leaf}
use Rattle.net_syntax.specs.Standing.{alone, TypeAt}
use Rattle.net_tree.specs.Weight.{weight}
use Rattle.net_tree.specs.LawStep.{part_of}
use Rattle.net_meaning.specs.TypedNetwork.{TypedNetwork}
use Rattle.cert_check.specs.Derives.{standing_tree}
use Rattle.net_view.specs.Listed.{ArePositions}
use Rattle.net_view.specs.declared.lines.OutlineLine.{OutlineLine}

-- a position, what stands there, its output type or type, and the weight of a network
pub record OutlinedLine : Type 0 where
  pub position : List ℕ
  pub tree : Tree Expression
  pub output : TypeTree
  pub weight : Option ℕ

-- what the code's `OutlineLine` says
abbrev pub line_of : OutlineLine → OutlinedLine
line_of r =
    record {
      position = r.position;
      tree = part_of r.tree;
      output = type_of r.output;
      weight = r.weight;
    }

-- a network's weight, as `weight` answers it of the network alone; an expression has none
abbrev pub weight_in : Tree Expression → Option ℕ
weight_in (a_network f) = Some (min (weight f []) 1000001)
weight_in (a_leaf e) = None

-- the line says what stands at its position, the type that it has there, and its weight
pub record IsLine (t : TypedNetwork) (r : OutlinedLine) : Type 0 where
  pub there : standing_tree t r.position ≡ Some r.tree
  pub typed : TypeAt (alone t.input) (a_network t.net) r.position r.output
  pub weighs : r.weight ≡ weight_in r.tree

-- a line for each position at which something stands, in preorder
pub record IsOutline (t : TypedNetwork) (lines : List OutlinedLine) : Type 0 where
  pub all : ArePositions t [] (map (λ r. r.position) lines)
  pub each : All (IsLine t) lines
