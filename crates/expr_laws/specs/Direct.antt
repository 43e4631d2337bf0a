-- What the laws that aren't two patterns make of an expression, read from left to right: the right
-- side where the expression is a left side, else nothing.
use Rattle.std.specs.Prelude.{ℤ, Bool, true, false, ◌&&◌, cond, [], Option, Some, None}
use Rattle.sample_core.specs.Datum.{unit}
use Rattle.leaf_core.specs.Expression.{Expression, Expressions, param, unit_expr, bool_expr, int_expr, pair_expr, fst, snd, then_expr, neg, add, sub, mul, less, equal, not_expr, and_expr, or_expr, if_expr, no_event_expr, event_expr, on, list_expr, nth, len, no_more, and_then}
use Rattle.leaf_core.specs.ExpressionValue.{value_of}
use Rattle.leaf_core.specs.ExpressionCode.{expression_code}
use Rattle.leaf_core.specs.EqualityByCode.{same_by}
use Rattle.expr_laws.specs.ExpressionLaw.{each_then, literal_for, picked, is_bool}

-- an operator with each of its parts behind f
abbrev pub spread : Expression → Expression → Option Expression
spread f (pair_expr a b) = Some (pair_expr (then_expr f a) (then_expr f b))
spread f (fst e) = Some (fst (then_expr f e))
spread f (snd e) = Some (snd (then_expr f e))
spread f (neg a) = Some (neg (then_expr f a))
spread f (add a b) = Some (add (then_expr f a) (then_expr f b))
spread f (sub a b) = Some (sub (then_expr f a) (then_expr f b))
spread f (mul a b) = Some (mul (then_expr f a) (then_expr f b))
spread f (less a b) = Some (less (then_expr f a) (then_expr f b))
spread f (equal a b) = Some (equal (then_expr f a) (then_expr f b))
spread f (not_expr a) = Some (not_expr (then_expr f a))
spread f (and_expr a b) = Some (and_expr (then_expr f a) (then_expr f b))
spread f (or_expr a b) = Some (or_expr (then_expr f a) (then_expr f b))
spread f (if_expr c a b) = Some (if_expr (then_expr f c) (then_expr f a) (then_expr f b))
spread f (event_expr e) = Some (event_expr (then_expr f e))
spread f (nth e i d) = Some (nth (then_expr f e) (then_expr f i) (then_expr f d))
spread f (len e) = Some (len (then_expr f e))
spread f (list_expr T (and_then e es)) = Some (list_expr T (each_then f (and_then e es)))
spread f _ = None

-- an operator behind an expression
abbrev pub law4 : Expression → Option Expression
law4 (then_expr f o) = spread f o
law4 _ = None

-- whether an expression has no part and isn't the input
abbrev pub is_constant : Expression → Bool
is_constant (param k) = true
is_constant unit_expr = true
is_constant (bool_expr b) = true
is_constant (int_expr n) = true
is_constant (no_event_expr T) = true
is_constant (list_expr T no_more) = true
is_constant _ = false

-- what doesn't see the input, behind an expression
abbrev pub law6 : Expression → Option Expression
law6 (then_expr f k) = cond (is_constant k) (Some k) None
law6 _ = None

-- whether an expression is a number literal
abbrev pub is_int : Expression → Bool
is_int (int_expr n) = true
is_int _ = false

-- whether two expressions are literals of one type
abbrev pub are_alike : Expression → Expression → Bool
are_alike unit_expr unit_expr = true
are_alike (bool_expr b) (bool_expr c) = true
are_alike (int_expr m) (int_expr n) = true
are_alike _ _ = false

-- whether an expression is an operator on literals of the types that it takes
abbrev pub on_literals : Expression → Bool
on_literals (neg a) = is_int a
on_literals (add a b) = is_int a && is_int b
on_literals (sub a b) = is_int a && is_int b
on_literals (mul a b) = is_int a && is_int b
on_literals (less a b) = is_int a && is_int b
on_literals (equal a b) = are_alike a b
on_literals (not_expr a) = is_bool a
on_literals (and_expr a b) = is_bool a && is_bool b
on_literals (or_expr a b) = is_bool a && is_bool b
on_literals _ = false

-- an operator on literals
abbrev pub law15 : Expression → Option Expression
law15 e = cond (on_literals e) (Some (literal_for (value_of e [] unit))) None

-- the element at a place; nothing where there are no elements
abbrev pub picked_in : Expressions → ℤ → Expression → Option Expression
picked_in no_more i d = None
picked_in es i d = Some (picked es i d)

-- an element of a list, at a number literal
abbrev pub picked_from : Expression → Expression → Expression → Option Expression
picked_from (list_expr T es) (int_expr i) d = picked_in es i d
picked_from _ _ d = None

-- the same of `nth`
abbrev pub law18 : Expression → Option Expression
law18 (nth e i d) = picked_from e i d
law18 _ = None

-- an operator, `and` or `or`, on two expressions: where the first is a literal, the second if the
-- literal is the operator's neutral one, else the literal; with another first one what is given, the
-- operator with its parts exchanged
abbrev pub turned_by : Bool → Expression → Expression → Expression → Expression
turned_by neutral exchanged (bool_expr true) b = cond neutral b (bool_expr true)
turned_by neutral exchanged (bool_expr false) b = cond neutral (bool_expr false) b
turned_by neutral exchanged a b = exchanged

-- the same of an expression that is `and` or `or`
abbrev pub law23 : Expression → Option Expression
law23 (and_expr a b) = Some (turned_by true (and_expr b a) a b)
law23 (or_expr a b) = Some (turned_by false (or_expr b a) a b)
law23 _ = None

-- `true` where two expressions are the same, else `equal` of the second and the first
abbrev pub turned_equal : Expression → Expression → Expression
turned_equal a b = cond (same_by expression_code a b) (bool_expr true) (equal b a)

-- the same of an expression that is `equal`
abbrev pub law26 : Expression → Option Expression
law26 (equal a b) = Some (turned_equal a b)
law26 _ = None

-- an operator of one part, at an `if`: an `if` between the operators at its parts
abbrev pub lift_one : (Expression → Expression) → Expression → Option Expression
lift_one form (if_expr c a b) = Some (if_expr c (form a) (form b))
lift_one form _ = None

-- the same of two parts, at the first that is an `if`
abbrev pub lift_two : (Expression → Expression → Expression) → Expression → Expression
    → Option Expression
lift_two form (if_expr c a b) e = Some (if_expr c (form a e) (form b e))
lift_two form d e = lift_one (form d) e

-- the same of three parts
abbrev pub lift_three : (Expression → Expression → Expression → Expression) → Expression
    → Expression → Expression → Option Expression
lift_three form (if_expr c a b) e f = Some (if_expr c (form a e f) (form b e f))
lift_three form d e f = lift_two (form d) e f

-- the same of the elements of a list
abbrev pub lift_all : (Expressions → Expression) → Expressions → Option Expression
lift_all form no_more = None
lift_all form (and_then (if_expr c a b) es) =
    Some (if_expr c (form (and_then a es)) (form (and_then b es)))
lift_all form (and_then e es) = lift_all (λ fs. form (and_then e fs)) es

-- an operator with an `if` among its parts that have its input
abbrev pub law49 : Expression → Option Expression
law49 (fst e) = lift_one fst e
law49 (snd e) = lift_one snd e
law49 (neg a) = lift_one neg a
law49 (not_expr a) = lift_one not_expr a
law49 (event_expr e) = lift_one event_expr e
law49 (len e) = lift_one len e
law49 (then_expr f g) = lift_one (λ d. then_expr d g) f
law49 (pair_expr a b) = lift_two pair_expr a b
law49 (add a b) = lift_two add a b
law49 (sub a b) = lift_two sub a b
law49 (mul a b) = lift_two mul a b
law49 (less a b) = lift_two less a b
law49 (equal a b) = lift_two equal a b
law49 (and_expr a b) = lift_two and_expr a b
law49 (or_expr a b) = lift_two or_expr a b
law49 (on e d b) = lift_two (λ f g. on f g b) e d
law49 (if_expr c a b) = lift_three if_expr c a b
law49 (nth e i d) = lift_three nth e i d
law49 (list_expr T es) = lift_all (list_expr T) es
law49 _ = None
