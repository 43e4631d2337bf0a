-- What a table's further rows change of what is bound to it: nothing.
use Rattle.std.specs.Prelude.{◌≡◌, List, ◌++◌}
use Rattle.leaf_core.specs.KeyTree.{KeyTree}
use Rattle.step_core.specs.Binding.{Binding, FitsTable}
use Rattle.step_core.specs.RowTyping.{network_by}

-- what fits a table fits it with more rows, and is the same network
abbrev pub GrownTableLaw : Type 0
GrownTableLaw = (keys more : List KeyTree) (b : Binding) → FitsTable keys b
    → FitsTable (keys ++ more) b × (network_by (keys ++ more) b.rows ≡ network_by keys b.rows)
