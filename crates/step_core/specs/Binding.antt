-- What a network that is bound to a table is to every contract.
use Rattle.std.specs.Prelude.{ℕ, ◌≤◌, List, [], refl}
use Rattle.std.specs.Coded.{Coded, code_by, coded×, coded_ℕ}
use Rattle.sample_core.specs.TypeTree.{TypeTree}
use Rattle.sample_core.specs.TypeCode.{type_code}
use Rattle.leaf_core.specs.KeyTree.{KeyTree}
use Rattle.net_tree.specs.Network.{Network}
use Rattle.net_tree.specs.NetworkCode.{network_code}
use Rattle.net_tree.specs.Weight.{weight}
use Rattle.step_core.specs.RowTyping.{RowsTyped}

-- a network over the numbers of rows, and its input type
pub record Binding : Type 0 where
  pub input : TypeTree
  pub rows : Network ℕ

-- the code of a binding, by which the check tells bindings apart
abbrev pub binding_code : Coded Binding
binding_code = code_by (TypeTree × Network ℕ) (coded× type_code (network_code coded_ℕ))
    (λ b. (b.input, b.rows)) (λ p. record { input = p.0; rows = p.1 }) (λ _. refl)

-- each row that the network names is there, and kept for the types at its place; the network is
-- within the limit of weight
abbrev pub FitsTable : List KeyTree → Binding → Type 0
FitsTable keys b = (B : TypeTree) × RowsTyped keys b.rows b.input B
    × (weight b.rows [] ≤ 1000000)
