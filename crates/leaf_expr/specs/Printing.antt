-- The one printed form of types and expressions: core forms alone.
use Rattle.std.specs.Prelude.{ℕ, ◌≤◌, List, true, false, codes, FitsSigned}
use Rattle.std.specs.Int.{w64}
use Rattle.std.specs.Fmt.{decimal, signed_decimal}
use Rattle.sample_core.specs.TypeTree.{TypeTree, unit_ty, bool_ty, int_ty, pair_ty, event_ty, list_ty}
use Rattle.leaf_core.specs.Expression.{Expression, Expressions, input, param, unit_expr, bool_expr, int_expr, pair_expr, fst, snd, then_expr, neg, add, sub, mul, less, equal, not_expr, and_expr, or_expr, if_expr, no_event_expr, event_expr, on, list_expr, nth, len, no_more, and_then}
use Rattle.leaf_expr.specs.Sexpr.{Sexpr, Sexprs, atom, form, last, more}
use Rattle.leaf_expr.specs.declared.number_reader.TheConstants.{MOST_INDEX}

-- a form of one part
abbrev pub one : List ℕ → Sexpr → Sexpr
one w p = form w (more p last)

-- a form of two parts
abbrev pub two : List ℕ → Sexpr → Sexpr → Sexpr
two w p q = form w (more p (more q last))

-- a form of three parts
abbrev pub three : List ℕ → Sexpr → Sexpr → Sexpr → Sexpr
three w p q r = form w (more p (more q (more r last)))

-- the part that a type is printed as
abbrev pub type_sexpr : TypeTree → Sexpr
type_sexpr unit_ty = atom (codes "Unit")
type_sexpr bool_ty = atom (codes "Bool")
type_sexpr int_ty = atom (codes "Int")
type_sexpr (pair_ty a b) = two (codes "Pair") (type_sexpr a) (type_sexpr b)
type_sexpr (event_ty a) = one (codes "Event") (type_sexpr a)
type_sexpr (list_ty a) = one (codes "List") (type_sexpr a)

abbrev mutual
  -- the part that an expression is printed as
  pub expression_sexpr : Expression → Sexpr
  expression_sexpr input = atom (codes "x")
  expression_sexpr (param k) = one (codes "p") (atom (decimal k))
  expression_sexpr unit_expr = atom (codes "unit")
  expression_sexpr (bool_expr true) = atom (codes "true")
  expression_sexpr (bool_expr false) = atom (codes "false")
  expression_sexpr (int_expr n) = atom (signed_decimal n)
  expression_sexpr (pair_expr a b) = two (codes "pair") (expression_sexpr a) (expression_sexpr b)
  expression_sexpr (fst e) = one (codes "fst") (expression_sexpr e)
  expression_sexpr (snd e) = one (codes "snd") (expression_sexpr e)
  expression_sexpr (then_expr f g) = two (codes "then") (expression_sexpr f) (expression_sexpr g)
  expression_sexpr (neg a) = one (codes "neg") (expression_sexpr a)
  expression_sexpr (add a b) = two (codes "add") (expression_sexpr a) (expression_sexpr b)
  expression_sexpr (sub a b) = two (codes "sub") (expression_sexpr a) (expression_sexpr b)
  expression_sexpr (mul a b) = two (codes "mul") (expression_sexpr a) (expression_sexpr b)
  expression_sexpr (less a b) = two (codes "less") (expression_sexpr a) (expression_sexpr b)
  expression_sexpr (equal a b) = two (codes "equal") (expression_sexpr a) (expression_sexpr b)
  expression_sexpr (not_expr a) = one (codes "not") (expression_sexpr a)
  expression_sexpr (and_expr a b) = two (codes "and") (expression_sexpr a) (expression_sexpr b)
  expression_sexpr (or_expr a b) = two (codes "or") (expression_sexpr a) (expression_sexpr b)
  expression_sexpr (if_expr c a b) =
      three (codes "if") (expression_sexpr c) (expression_sexpr a) (expression_sexpr b)
  expression_sexpr (no_event_expr t) = one (codes "none") (type_sexpr t)
  expression_sexpr (event_expr e) = one (codes "event") (expression_sexpr e)
  expression_sexpr (on e d b) =
      three (codes "on") (expression_sexpr e) (expression_sexpr d) (expression_sexpr b)
  expression_sexpr (list_expr t es) =
      form (codes "list") (more (type_sexpr t) (expression_sexprs es))
  expression_sexpr (nth e i d) =
      three (codes "nth") (expression_sexpr e) (expression_sexpr i) (expression_sexpr d)
  expression_sexpr (len e) = one (codes "len") (expression_sexpr e)

  -- the parts that the elements of a list are printed as
  pub expression_sexprs : Expressions → Sexprs
  expression_sexprs no_more = last
  expression_sexprs (and_then e es) = more (expression_sexpr e) (expression_sexprs es)

-- the numbers of an expression are in the ranges of their places
abbrev mutual
  pub InRange : Expression → Type 0
  InRange (param k) = k ≤ MOST_INDEX
  InRange (int_expr n) = FitsSigned w64 n
  InRange (pair_expr a b) = InRange a × InRange b
  InRange (fst e) = InRange e
  InRange (snd e) = InRange e
  InRange (then_expr f g) = InRange f × InRange g
  InRange (neg a) = InRange a
  InRange (add a b) = InRange a × InRange b
  InRange (sub a b) = InRange a × InRange b
  InRange (mul a b) = InRange a × InRange b
  InRange (less a b) = InRange a × InRange b
  InRange (equal a b) = InRange a × InRange b
  InRange (not_expr a) = InRange a
  InRange (and_expr a b) = InRange a × InRange b
  InRange (or_expr a b) = InRange a × InRange b
  InRange (if_expr c a b) = InRange c × InRange a × InRange b
  InRange (event_expr e) = InRange e
  InRange (on e d b) = InRange e × InRange d × InRange b
  InRange (list_expr t es) = AllInRange es
  InRange (nth e i d) = InRange e × InRange i × InRange d
  InRange (len e) = InRange e
  InRange _ = Unit {0}

  -- the same of the elements of a list
  pub AllInRange : Expressions → Type 0
  AllInRange no_more = Unit {0}
  AllInRange (and_then e es) = InRange e × AllInRange es
