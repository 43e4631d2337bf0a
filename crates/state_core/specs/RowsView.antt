-- What the code's networks of rows are as trees.
use Rattle.std.specs.Prelude.{ℕ}
use Rattle.leaf_table.specs.declared.table.LeafId.{LeafId}
use Rattle.net_tree.specs.Network.{Network, map_network}
use Rattle.net_tree.specs.NetworkView.{network_of}
use Rattle.net_tree.specs.declared.net.Net.{Net}

-- the number of a row
abbrev pub row_number : LeafId → ℕ
row_number id = id.0

-- a network over the numbers of rows
abbrev pub rows_in : Net LeafId → Network ℕ
rows_in net = map_network row_number (network_of net)
