-- What stands inside an expression, apart from its form.
use Rattle.std.specs.Prelude.{ℕ, suc, ◌+◌, ℤ, true, false, [], ◌++◌}
use Rattle.std.specs.Hash as fed
use Rattle.sample_core.specs.TypeTree.{TypeTree}
use Rattle.sample_core.specs.TypeView.{type_of}
use Rattle.leaf_core.specs.Expression.{Expression, Expressions, expressions_of, nodes_in, nodes_in_all, input, param, unit_expr, bool_expr, int_expr, pair_expr, fst, snd, then_expr, neg, add, sub, mul, less, equal, not_expr, and_expr, or_expr, if_expr, no_event_expr, event_expr, on, list_expr, nth, len}
use Rattle.leaf_core.specs.HashWrites.{type_writes, expression_writes, expressions_writes}
use Rattle.leaf_core.specs.declared.contents.Contents.{Contents}
use Rattle.leaf_core.specs.declared.contents.Contents.TheVariants as V
use Rattle.leaf_core.specs.declared.expr.Expr.{Expr}
use Rattle.leaf_core.specs.declared.expr.Expr.TheVariants as E
use Rattle.leaf_core.specs.declared.literal.Literal.TheVariants as C

-- nothing, a parameter's number, a literal's number, parts in their order, a type, or a type and
-- elements
pub data Inside : Type 0 where
  nothing : Inside
  index : ℕ → Inside
  literal : ℤ → Inside
  one : Expression → Inside
  two : Expression → Expression → Inside
  three : Expression → Expression → Expression → Inside
  one_type : TypeTree → Inside
  many : TypeTree → Expressions → Inside

-- what stands inside an expression; with the number of its form it is the expression
abbrev pub inside_of : Expression → Inside
inside_of input = nothing
inside_of (param k) = index k
inside_of unit_expr = nothing
inside_of (bool_expr false) = nothing
inside_of (bool_expr true) = nothing
inside_of (int_expr n) = literal n
inside_of (pair_expr a b) = two a b
inside_of (fst a) = one a
inside_of (snd a) = one a
inside_of (then_expr a b) = two a b
inside_of (neg a) = one a
inside_of (add a b) = two a b
inside_of (sub a b) = two a b
inside_of (mul a b) = two a b
inside_of (less a b) = two a b
inside_of (equal a b) = two a b
inside_of (not_expr a) = one a
inside_of (and_expr a b) = two a b
inside_of (or_expr a b) = two a b
inside_of (if_expr a b c) = three a b c
inside_of (no_event_expr t) = one_type t
inside_of (event_expr a) = one a
inside_of (on a b c) = three a b c
inside_of (list_expr t es) = many t es
inside_of (nth a b c) = three a b c
inside_of (len a) = one a

-- what the code's `Contents` says
abbrev pub inside_in : Contents → Inside
inside_in V.Nothing = nothing
inside_in (V.Index k) = index k
inside_in (V.Number n) = literal n
inside_in (V.One a) = one a.now
inside_in (V.Two a b) = two a.now b.now
inside_in (V.Three a b c) = three a.now b.now c.now
inside_in (V.Type t) = one_type (type_of t.now)
inside_in (V.Elements t es) = many (type_of t.now) (expressions_of es.now)

-- how many expressions an expression is made of, by what stands inside it
abbrev pub inside_nodes : Inside → ℕ
inside_nodes (one a) = suc (nodes_in a)
inside_nodes (two a b) = suc (nodes_in a + nodes_in b)
inside_nodes (three a b c) = suc (nodes_in a + nodes_in b + nodes_in c)
inside_nodes (many t es) = suc (nodes_in_all es)
inside_nodes _ = 1

-- what a hasher is fed behind the number of the form
abbrev pub inside_fed : Inside → fed.HashWrites
inside_fed nothing = []
inside_fed (index k) = fed.u32 k
inside_fed (literal n) = fed.i64 n
inside_fed (one a) = expression_writes a
inside_fed (two a b) = expression_writes a ++ expression_writes b
inside_fed (three a b c) = expression_writes a ++ (expression_writes b ++ expression_writes c)
inside_fed (one_type t) = type_writes t
inside_fed (many t es) = type_writes t ++ (expressions_writes es ++ fed.u8 26)

-- the code's expression of a form that has nothing inside
abbrev pub plain : Expr → Expr
plain (E.Literal c) = E.Literal c
plain _ = E.Input

-- the code's expression of the form of another, which has one part, with this part
abbrev pub with_one : Expr → Expression → Expr
with_one (E.Fst _) a = E.Fst a
with_one (E.Snd _) a = E.Snd a
with_one (E.Neg _) a = E.Neg a
with_one (E.Not _) a = E.Not a
with_one (E.Event _) a = E.Event a
with_one _ a = E.Len a

-- the same of two parts
abbrev pub with_two : Expr → Expression → Expression → Expr
with_two (E.Pair _ _) a b = E.Pair a b
with_two (E.Then _ _) a b = E.Then a b
with_two (E.Add _ _) a b = E.Add a b
with_two (E.Sub _ _) a b = E.Sub a b
with_two (E.Mul _ _) a b = E.Mul a b
with_two (E.Less _ _) a b = E.Less a b
with_two (E.Equal _ _) a b = E.Equal a b
with_two (E.And _ _) a b = E.And a b
with_two _ a b = E.Or a b

-- the same of three parts
abbrev pub with_three : Expr → Expression → Expression → Expression → Expr
with_three (E.If _ _ _) a b c = E.If a b c
with_three (E.On _ _ _) a b c = E.On a b c
with_three _ a b c = E.Nth a b c

-- the code's expression of the form of another, with this inside
abbrev pub rebuild : Expr → Contents → Expr
rebuild e V.Nothing = plain e
rebuild e (V.Index k) = E.Param k
rebuild e (V.Number n) = E.Literal (C.Int n)
rebuild e (V.One a) = with_one e a.now
rebuild e (V.Two a b) = with_two e a.now b.now
rebuild e (V.Three a b c) = with_three e a.now b.now c.now
rebuild e (V.Type t) = E.NoEvent t.now
rebuild e (V.Elements t es) = E.List t.now es.now
