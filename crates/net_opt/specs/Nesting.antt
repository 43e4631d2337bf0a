-- Networks that stand in one another, and trees that are too high for where they stand.
use Rattle.std.specs.Prelude.{◌≡◌, ℕ, suc, ◌-◌, Some}
use Rattle.leaf_core.specs.Expression.{Expression}
use Rattle.net_tree.specs.Network.{Network}
use Rattle.net_tree.specs.Place.{Tree, a_network, a_leaf, child}
use Rattle.net_tree.specs.declared.measure.TheConstants.{MOST_HEIGHT}

-- so many networks stand in one another inside the network
pub data IsNested : ℕ → Network Expression → Type 0 where
  not_nested : {f : Network Expression} → IsNested 0 f
  nested_in : {n : ℕ} {f : Network Expression} (k : ℕ) (g : Network Expression)
      → child f k ≡ Some (a_network g) → IsNested n g → IsNested (suc n) f

-- a network is too high in which the tree stands so deep
abbrev pub IsTooHigh : ℕ → Tree Expression → Type 0
IsTooHigh depth (a_network f) = IsNested (MOST_HEIGHT - depth) f
IsTooHigh depth (a_leaf e) = ⊥
