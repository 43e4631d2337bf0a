-- What a table is to every contract: the lists of its rows' keys and of its rows' leaves, row 0
-- first.
use Rattle.std.specs.Prelude.{◌≡◌, List}
use Rattle.indexmap.specs.IndexMap.{keys, values}
use Rattle.leaf_core.specs.KeyTree.{KeyTree}
use Rattle.leaf_table.specs.declared.leaf.Leaf.{Leaf}
use Rattle.leaf_table.specs.declared.table.LeafTable.{LeafTable}
use Rattle.leaf_table.specs.declared.table.TheConstants.{MOST_ROWS}

-- the keys of the rows: row k is the k-th
abbrev pub rows_of : {d : _} {f : _} {m : _} → LeafTable d f m → List KeyTree
rows_of table = keys table.rows

-- the leaves of the rows, each with its closure: row k holds the k-th
abbrev pub leaves_of : {d : _} {f : _} {m : _} → LeafTable d f m → List (Leaf d f m)
leaves_of table = values table.rows

-- the most rows that a table has
abbrev pub MostRowsIs : Type 0
MostRowsIs = MOST_ROWS ≡ 4096
