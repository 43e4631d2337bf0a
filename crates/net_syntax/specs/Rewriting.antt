-- A typed network with another tree at a position.
use Rattle.std.specs.Prelude.{◌≡◌, ℕ, List, Some}
use Rattle.sample_core.specs.TypeTree.{TypeTree}
use Rattle.leaf_core.specs.Expression.{Expression}
use Rattle.net_tree.specs.Place.{Tree, a_network}
use Rattle.net_syntax.specs.Placed.{replaced}
use Rattle.net_syntax.specs.Standing.{Standing, alone, StandsAt, TreeTyped}
use Rattle.net_meaning.specs.TypedNetwork.{TypedNetwork}
use Rattle.net_meaning.specs.NetworkLimits.{WithinLimits}

-- new has the type, where it is to stand, of what stands there
pub record KeepsType (t : TypedNetwork) (p : List ℕ) (new : Tree Expression) : Type 0 where
  pub there : Tree Expression
  pub standing : Standing
  pub stands : StandsAt (alone t.input) (a_network t.net) p there standing
  pub output : TypeTree
  pub before : TreeTyped standing there output
  pub now : TreeTyped standing new output

-- t, with new at the position in place of what stood there, is t': typed as t is, within the
-- limits, and the type at the position is kept
pub record Rewrites (t : TypedNetwork) (p : List ℕ) (new : Tree Expression) (t' : TypedNetwork)
    : Type 0 where
  pub result : replaced (a_network t.net) p new ≡ Some (a_network t'.net)
  pub same_input : t'.input ≡ t.input
  pub same_output : t'.output ≡ t.output
  pub within : WithinLimits t'
  pub keeps_type : KeepsType t p new
