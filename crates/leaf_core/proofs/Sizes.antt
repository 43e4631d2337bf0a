-- How large the code's expressions are: by these a recursion over them is seen to end.
use Rattle.std.proofs.Common.{ℕ, List}
use Rattle.leaf_core.specs.Expression.{Expression, expressions_of, nodes_in, nodes_in_all}
use Rattle.leaf_core.specs.declared.expr.Expr.{Expr}
use Rattle.leaf_core.specs.ExpressionView.{expression_of}

-- the nodes of an expression
abbrev pub expr_nodes : Expr → ℕ
expr_nodes e = nodes_in (expression_of e)

-- the nodes of the elements of a list expression
abbrev pub exprs_nodes : List Expression → ℕ
exprs_nodes es = nodes_in_all (expressions_of es)
