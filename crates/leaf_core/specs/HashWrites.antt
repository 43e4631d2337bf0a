-- What a hasher is fed at an expression, a type and a key: the tag of each form, and then its
-- parts.
use Rattle.std.specs.Prelude.{ℕ, [], ◌++◌, true, false}
use Rattle.std.specs.Hash as fed
use Rattle.std.specs.List.{flat_map}
use Rattle.sample_core.specs.CodeNode.{tag_of as node_tag}
use Rattle.sample_core.specs.TypeTree.{TypeTree, unit_ty, bool_ty, int_ty, pair_ty, event_ty, list_ty}
use Rattle.leaf_core.specs.Expression.{Expression, Expressions, input, param, unit_expr, bool_expr, int_expr, pair_expr, fst, snd, then_expr, neg, add, sub, mul, less, equal, not_expr, and_expr, or_expr, if_expr, no_event_expr, event_expr, on, list_expr, nth, len, no_more, and_then}
use Rattle.leaf_core.specs.ExpressionCode.{to_code}
use Rattle.leaf_core.specs.KeyTree.{KeyTree}

-- what a hasher is fed at a type
abbrev pub type_writes : TypeTree → fed.HashWrites
type_writes unit_ty = fed.u8 0
type_writes bool_ty = fed.u8 1
type_writes int_ty = fed.u8 2
type_writes (pair_ty A B) = fed.u8 3 ++ (type_writes A ++ type_writes B)
type_writes (event_ty A) = fed.u8 4 ++ type_writes A
type_writes (list_ty A) = fed.u8 5 ++ type_writes A

-- the number of an expression's form, as its code has it; `true` has one of its own
abbrev pub tag_of : Expression → ℕ
tag_of (bool_expr true) = 25
tag_of e = node_tag (to_code e)

-- what a hasher is fed at an expression: the number of its form, and then what is given
abbrev pub tagged : Expression → fed.HashWrites → fed.HashWrites
tagged e writes = fed.u8 (tag_of e) ++ writes

abbrev mutual
  -- what a hasher is fed at an expression
  pub expression_writes : Expression → fed.HashWrites
  expression_writes input = tagged input []
  expression_writes (param k) = tagged (param k) (fed.u32 k)
  expression_writes unit_expr = tagged unit_expr []
  expression_writes (bool_expr false) = tagged (bool_expr false) []
  expression_writes (bool_expr true) = tagged (bool_expr true) []
  expression_writes (int_expr n) = tagged (int_expr n) (fed.i64 n)
  expression_writes (pair_expr a b) =
      tagged (pair_expr a b) (expression_writes a ++ expression_writes b)
  expression_writes (fst a) = tagged (fst a) (expression_writes a)
  expression_writes (snd a) = tagged (snd a) (expression_writes a)
  expression_writes (then_expr a b) =
      tagged (then_expr a b) (expression_writes a ++ expression_writes b)
  expression_writes (neg a) = tagged (neg a) (expression_writes a)
  expression_writes (add a b) = tagged (add a b) (expression_writes a ++ expression_writes b)
  expression_writes (sub a b) = tagged (sub a b) (expression_writes a ++ expression_writes b)
  expression_writes (mul a b) = tagged (mul a b) (expression_writes a ++ expression_writes b)
  expression_writes (less a b) = tagged (less a b) (expression_writes a ++ expression_writes b)
  expression_writes (equal a b) = tagged (equal a b) (expression_writes a ++ expression_writes b)
  expression_writes (not_expr a) = tagged (not_expr a) (expression_writes a)
  expression_writes (and_expr a b) =
      tagged (and_expr a b) (expression_writes a ++ expression_writes b)
  expression_writes (or_expr a b) =
      tagged (or_expr a b) (expression_writes a ++ expression_writes b)
  expression_writes (if_expr a b c) =
      tagged (if_expr a b c) (expression_writes a ++ (expression_writes b ++ expression_writes c))
  expression_writes (no_event_expr t) = tagged (no_event_expr t) (type_writes t)
  expression_writes (event_expr a) = tagged (event_expr a) (expression_writes a)
  expression_writes (on a b c) =
      tagged (on a b c) (expression_writes a ++ (expression_writes b ++ expression_writes c))
  expression_writes (list_expr t es) =
      tagged (list_expr t es) (type_writes t ++ (expressions_writes es ++ fed.u8 26))
  expression_writes (nth a b c) =
      tagged (nth a b c) (expression_writes a ++ (expression_writes b ++ expression_writes c))
  expression_writes (len a) = tagged (len a) (expression_writes a)

  -- what a hasher is fed at the elements of a list
  pub expressions_writes : Expressions → fed.HashWrites
  expressions_writes no_more = []
  expressions_writes (and_then e es) = expression_writes e ++ expressions_writes es

-- what a hasher is fed at a key: its expression, and then its types
abbrev pub key_writes : KeyTree → fed.HashWrites
key_writes k = expression_writes k.expr ++ (flat_map type_writes k.params ++ type_writes k.input)
