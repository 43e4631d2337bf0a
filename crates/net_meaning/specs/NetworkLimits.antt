-- Networks within the limits.
use Rattle.std.specs.Prelude.{◌≤◌, List, [], ◌≡◌}
use Rattle.sample_core.specs.TypeTree.{TypeTree}
use Rattle.leaf_core.specs.Expression.{Expression}
use Rattle.leaf_core.specs.TypeLimits.{TypeFits}
use Rattle.leaf_core.specs.ExpressionLimits.{ExpressionTypedWithin}
use Rattle.net_tree.specs.Network.{Network}
use Rattle.net_meaning.specs.Typing.{Arrow, Typed}
use Rattle.net_tree.specs.Weight.{weight}
use Rattle.net_tree.specs.Height.{height}
use Rattle.net_meaning.specs.TypedNetwork.{TypedNetwork}

-- the network is typed, its expressions are within their limits, and so is each type that arises
abbrev pub NetTypedWithin : List TypeTree → List Arrow → Network Expression → TypeTree → TypeTree
    → Type 0
NetTypedWithin = Typed (λ e Ps A B. ExpressionTypedWithin e Ps A B) TypeFits

-- a whole network, with nothing in scope, is typed within all limits
pub record NetworkFits (net : Network Expression) (A B : TypeTree) : Type 0 where
  pub input_fits : TypeFits A
  pub typed : NetTypedWithin [] [] net A B
  pub low : height net [] ≤ 256
  pub light : weight net [] ≤ 1000000

-- the network is within all limits, with these types, and these are its weight and its height
pub record WithinLimits (t : TypedNetwork) : Type 0 where
  pub fits : NetworkFits t.net t.input t.output
  pub its_weight : t.weight ≡ weight t.net []
  pub its_height : t.height ≡ height t.net []
