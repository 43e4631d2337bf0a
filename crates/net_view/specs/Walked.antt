-- The walk that lists an outline: where what is inside a tree stands, and the lines that are added.
use Rattle.std.specs.Prelude.{◌≡◌, ℕ, List, ◌++◌, map, Option, Some, option_map}
use Rattle.std.specs.List.{All}
use Rattle.leaf_core.specs.Expression.{Expression}
use Rattle.leaf_core.specs.PartWalk.{part_input}
use Rattle.net_tree.specs.Place.{Tree, a_network, a_leaf}
use Rattle.net_syntax.specs.Placed.{Placed, placed_at}
use Rattle.net_syntax.specs.Standing.{Standing, alone}
use Rattle.net_syntax.specs.StandingWalk.{taking, inside, type_walk_at}
use Rattle.net_meaning.specs.TypedNetwork.{TypedNetwork}
use Rattle.net_opt.specs.Walk.{Reached}
use Rattle.net_view.specs.Listed.{AddsPositions}
use Rattle.net_view.specs.Outline.{OutlinedLine, weight_in}

-- where what is inside a tree at number k stands
abbrev pub inside_tree : Standing → Tree Expression → ℕ → Option Standing
inside_tree S (a_network f) k = inside S f k
inside_tree S (a_leaf e) k = option_map (taking S) (part_input S.params S.input e k)

-- the types below the position of the network are those below the tree that stands there
abbrev pub TypedBelow : TypedNetwork → List ℕ → Standing → Tree Expression → Type 0
TypedBelow t p S u = (q : List ℕ)
    → type_walk_at (alone t.input) (a_network t.net) (p ++ q) ≡ type_walk_at S u q

-- a place, and where it stands, that a walk over some typed network has come to
abbrev pub IsWalked : List ℕ → Standing → Placed → Type 0
IsWalked p S c = (t : TypedNetwork) × Reached t p c × TypedBelow t p S c.tree

-- the line is of what stands at a path below a place, which is at p: its type is that found there
pub record IsLineBelow (p : List ℕ) (S : Standing) (c : Placed) (r : OutlinedLine) : Type 0 where
  pub path : List ℕ
  pub at : r.position ≡ p ++ path
  pub there : option_map (λ d. d.tree) (placed_at c.params c.olds c.tree path) ≡ Some r.tree
  pub typed : type_walk_at S c.tree path ≡ Some r.output
  pub weighs : r.weight ≡ weight_in r.tree

-- lines were added behind others: of what stands below the place by paths which are so, in preorder
pub record AddsLines (p : List ℕ) (S : Standing) (c : Placed) (So : List ℕ → Type 0)
    (before now : List OutlinedLine) : Type 0 where
  pub lines : List OutlinedLine
  pub added : now ≡ before ++ lines
  pub each : All (IsLineBelow p S c) lines
  pub positions : AddsPositions p So (map (λ r. r.position) before) (map (λ r. r.position) now)
