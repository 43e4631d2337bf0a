-- The walk over a network: what is known of what is reached.
use Rattle.std.specs.Prelude.{◌≡◌, true, ℕ, ◌≤◌, List, Some}
use Rattle.sample_core.specs.TypeTree.{TypeTree}
use Rattle.leaf_core.specs.Expression.{Expression, nodes_in}
use Rattle.leaf_core.specs.declared.limits.TheConstants.{MOST_EXPR_NODES}
use Rattle.net_tree.specs.Network.{Network, network_size}
use Rattle.net_meaning.specs.NetworkLimits.{NetTypedWithin, WithinLimits}
use Rattle.net_tree.specs.Place.{Tree, a_network, a_leaf}
use Rattle.net_tree.specs.declared.measure.TheConstants.{MOST_SIZE}
use Rattle.net_syntax.specs.Placed.{Placed, placed_at}
use Rattle.net_meaning.specs.Typing.{Arrow}
use Rattle.net_meaning.specs.TypedNetwork.{TypedNetwork}
use Rattle.net_opt.specs.declared.walk.Walk.{Walk}

-- the network is typed within the limits, where it stands
pub record TypedSomewhere (f : Network Expression) : Type 0 where
  pub params : List TypeTree
  pub olds : List Arrow
  pub input : TypeTree
  pub output : TypeTree
  pub typed : NetTypedWithin params olds f input output

-- a network with few others inside; an expression with few parts
abbrev pub Limited : Tree Expression → Type 0
Limited (a_network f) = (network_size f ≤ MOST_SIZE) × TypedSomewhere f
Limited (a_leaf e) = nodes_in e ≤ MOST_EXPR_NODES

-- this stands at the position of the network, which is within the limits
pub record Reached (t : TypedNetwork) (p : List ℕ) (c : Placed) : Type 0 where
  pub within : WithinLimits t
  pub stands : placed_at 0 0 (a_network t.net) p ≡ Some c
  pub limited : Limited c.tree

-- a walk that is where it was; what was refused stays so
abbrev pub KeepsWalk : Walk → Walk → Type 0
KeepsWalk w v = (v.path.items ≡ w.path.items) × (w.refused ≡ true → v.refused ≡ true)
