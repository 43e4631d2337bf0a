-- Networks over the rows of a table of stored closures, which contracts see as the list of the
-- rows' keys.
use Rattle.std.specs.Prelude.{◌≡◌, ℕ, List, [], Option, Some, None, slice_get}
use Rattle.sample_core.specs.TypeTree.{TypeTree}
use Rattle.leaf_core.specs.Expression.{Expression, input}
use Rattle.leaf_core.specs.ExpressionTyping.{ExpressionTyped}
use Rattle.leaf_core.specs.KeyTree.{KeyTree}
use Rattle.net_tree.specs.Network.{Network, map_network}
use Rattle.net_meaning.specs.Typing.{Typed, AnyType}

-- the expression of a key, `x` where there is no key
abbrev pub expression_in : Option KeyTree → Expression
expression_in (Some key) = key.expr
expression_in None = input

-- the expression of row k
abbrev pub row_expression : List KeyTree → ℕ → Expression
row_expression keys k = expression_in (slice_get keys k)

-- the network whose expressions are those of the rows that it names
abbrev pub network_by : List KeyTree → Network ℕ → Network Expression
network_by keys rows = map_network (row_expression keys) rows

-- row k is kept for parameters of types Ps and an input of type A, and its expression is of type B
-- there
pub record RowTyped (keys : List KeyTree) (k : ℕ) (Ps : List TypeTree) (A B : TypeTree) : Type 0
  where
    pub expr : Expression
    pub is_row : slice_get keys k ≡ Some (record { expr = expr; params = Ps; input = A })
    pub is_typed : ExpressionTyped expr Ps A B

-- with nothing in scope, the network is one from A to B: each row that it names is there, and kept
-- for the types at its place
abbrev pub RowsTyped : List KeyTree → Network ℕ → TypeTree → TypeTree → Type 0
RowsTyped keys rows A B = Typed (RowTyped keys) AnyType [] [] rows A B
