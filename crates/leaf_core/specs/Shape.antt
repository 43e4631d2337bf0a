-- The shapes of the expressions that have code of their own, and what their names and parts tell of
-- the value.
use Rattle.std.specs.Prelude.{◌≡◌, pos, ◌+ℤ◌, ◌*ℤ◌, int_lt, List, Option, Some, None}
use Rattle.sample_core.specs.Datum.{Datum, unit, bool, int, pair, event, left, right, int_of}
use Rattle.leaf_core.specs.Expression.{Expression, input, unit_expr, bool_expr, int_expr, pair_expr, fst, snd, add, mul, less, event_expr}
use Rattle.leaf_core.specs.ExpressionValue.{value_of, wrap}
use Rattle.leaf_core.specs.declared.literal.Literal.{Literal}
use Rattle.leaf_core.specs.declared.literal.Literal.TheVariants as C
use Rattle.leaf_core.specs.declared.shape.Shape.{Shape}
use Rattle.leaf_core.specs.declared.shape.Shape.TheVariants as S

-- an expression's shape: one line a row of the table
abbrev pub shape : Expression → Shape
shape input = S.Identity
shape unit_expr = S.Constant C.Unit
shape (bool_expr p) = S.Constant (C.Bool p)
shape (int_expr n) = S.Constant (C.Int n)
shape (add input (int_expr b)) = S.Affine (pos 1) b
shape (mul input (int_expr a)) = S.Affine a (pos 0)
shape (add (mul input (int_expr a)) (int_expr b)) = S.Affine a b
shape (pair_expr (snd input) (fst input)) = S.Swap
shape (fst input) = S.Left
shape (snd input) = S.Right
shape (less input (int_expr k)) = S.Below k
shape (event_expr input) = S.Wrap
shape _ = S.General

-- the value that a literal writes out
abbrev pub literal_datum : Literal → Datum
literal_datum C.Unit = unit
literal_datum (C.Bool p) = bool p
literal_datum (C.Int n) = int n

-- the value at an input that a shape's name and parts give; a general expression's shape gives none
abbrev pub value_by_shape : Shape → Datum → Option Datum
value_by_shape S.Identity x = Some x
value_by_shape (S.Constant c) x = Some (literal_datum c)
value_by_shape (S.Affine a b) x = Some (wrap (a *ℤ int_of x +ℤ b))
value_by_shape S.Swap x = Some (pair (right x) (left x))
value_by_shape S.Left x = Some (left x)
value_by_shape S.Right x = Some (right x)
value_by_shape (S.Below k) x = Some (bool (int_lt (int_of x) k))
value_by_shape S.Wrap x = Some (event x)
value_by_shape S.General x = None

-- an expression whose shape gives a value has that value, under whatever parameters
abbrev pub ShapeValueLaw : Type 0
ShapeValueLaw = (e : Expression) (ps : List Datum) (x v : Datum)
    → value_by_shape (shape e) x ≡ Some v → value_of e ps x ≡ v
