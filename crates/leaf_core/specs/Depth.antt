-- Each expression inside an expression is smaller than it.
use Rattle.std.specs.Prelude.{◌≤◌, max, List, [], ◌∷◌, map}
use Rattle.std.proofs.Common.{arith}
use denote.Param.Weighed.{most}
use Rattle.leaf_core.specs.Expression.{expressions_of, nodes_in, nodes_in_all}
use Rattle.leaf_core.specs.declared.literal.Literal.TheVariants as C
use Rattle.leaf_core.specs.declared.expr.Expr.{Expr}
use Rattle.leaf_core.specs.declared.expr.Expr.TheVariants as V
use Rattle.leaf_core.specs.declared.expr.ExprChild.TheDeep.{deep-Expr}
use Rattle.leaf_core.specs.ExpressionView.{expression_of}

-- an expression's depth in the code is at most the number of its nodes
pub depth_le : (e : Expr) → max (deep-Expr e) 0 ≤ nodes_in (expression_of e)
depth_le V.Input = omega arith
depth_le (V.Param k) = omega arith
depth_le (V.Literal C.Unit) = omega arith
depth_le (V.Literal (C.Bool p)) = omega arith
depth_le (V.Literal (C.Int n)) = omega arith
depth_le (V.Pair a b) = omega arith
depth_le (V.Fst a) = omega arith
depth_le (V.Snd a) = omega arith
depth_le (V.Then a b) = omega arith
depth_le (V.Neg a) = omega arith
depth_le (V.Add a b) = omega arith
depth_le (V.Sub a b) = omega arith
depth_le (V.Mul a b) = omega arith
depth_le (V.Less a b) = omega arith
depth_le (V.Equal a b) = omega arith
depth_le (V.Not a) = omega arith
depth_le (V.And a b) = omega arith
depth_le (V.Or a b) = omega arith
depth_le (V.If a b c) = omega arith
depth_le (V.NoEvent t) = omega arith
depth_le (V.Event a) = omega arith
depth_le (V.On a b c) = omega arith
depth_le (V.List t es) = omega arith
depth_le (V.Nth a b c) = omega arith
depth_le (V.Len a) = omega arith

-- each element's depth in the code is at most the number of their nodes
pub depths_le : (es : List Expr)
    → most deep-Expr es ≤ nodes_in_all (expressions_of (map expression_of es))
depths_le [] = omega arith
depths_le (e ∷ es) = omega (arith, depth_le e, depths_le es)
