-- What the code's expressions are as trees.
use Rattle.leaf_core.specs.Expression.{Expression, input, param, unit_expr, bool_expr, int_expr, pair_expr, fst, snd, then_expr, neg, add, sub, mul, less, equal, not_expr, and_expr, or_expr, if_expr, no_event_expr, event_expr, on, list_expr, nth, len, expressions_of}
use Rattle.sample_core.specs.TypeView.{type_of}
use Rattle.leaf_core.specs.declared.literal.Literal.{Literal}
use Rattle.leaf_core.specs.declared.literal.Literal.TheVariants as C
use Rattle.leaf_core.specs.declared.expr.Expr.{Expr}
use Rattle.leaf_core.specs.declared.expr.Expr.TheVariants as V

-- the expression that a `Literal` is
abbrev pub literal_of : Literal → Expression
literal_of C.Unit = unit_expr
literal_of (C.Bool p) = bool_expr p
literal_of (C.Int n) = int_expr n

-- the expression that an `Expr` is
abbrev pub expression_of : Expr → Expression
expression_of V.Input = input
expression_of (V.Param k) = param k
expression_of (V.Literal c) = literal_of c
expression_of (V.Pair a b) = pair_expr a b
expression_of (V.Fst a) = fst a
expression_of (V.Snd a) = snd a
expression_of (V.Then a b) = then_expr a b
expression_of (V.Neg a) = neg a
expression_of (V.Add a b) = add a b
expression_of (V.Sub a b) = sub a b
expression_of (V.Mul a b) = mul a b
expression_of (V.Less a b) = less a b
expression_of (V.Equal a b) = equal a b
expression_of (V.Not a) = not_expr a
expression_of (V.And a b) = and_expr a b
expression_of (V.Or a b) = or_expr a b
expression_of (V.If a b c) = if_expr a b c
expression_of (V.NoEvent t) = no_event_expr (type_of t)
expression_of (V.Event a) = event_expr a
expression_of (V.On a b c) = on a b c
expression_of (V.List t es) = list_expr (type_of t) (expressions_of es)
expression_of (V.Nth a b c) = nth a b c
expression_of (V.Len a) = len a
