-- The checking walk over an expression: its type, or the first test that fails.
use Rattle.std.specs.Prelude.{ℕ, Bool, true, false, List, slice_get, Result, Ok, Err}
use Rattle.std.specs.Option.{ok_or}
use Rattle.std.specs.Int.{int_wrap, w64}
use Rattle.std.specs.Ordering.{int_eq}
use Rattle.sample_core.specs.Answer.{◌>>=◌}
use Rattle.sample_core.specs.TypeTree.{TypeTree, unit_ty, bool_ty, int_ty, pair_ty, event_ty, list_ty}
use Rattle.leaf_core.specs.TypeLimits.{type_fits, same_tree}
use Rattle.leaf_core.specs.Expression.{Expression, Expressions, input, param, unit_expr, bool_expr, int_expr, pair_expr, fst, snd, then_expr, neg, add, sub, mul, less, equal, not_expr, and_expr, or_expr, if_expr, no_event_expr, event_expr, on, list_expr, nth, len, no_more, and_then}
use Rattle.leaf_core.specs.ExpressionLimits.{expression_fits}
use Rattle.leaf_core.specs.declared.typing.ExprFault.{ExprFault}
use Rattle.leaf_core.specs.declared.typing.ExprFault.TheVariants.{Mismatch, NoParam, TooDeep}

-- a type, or the first fault: `Mismatch` where a type is not as wanted, `NoParam` where there is no
-- such parameter, `TooDeep` where a type or the expression is over its limits
abbrev pub TypeAnswer : Type 0
TypeAnswer = Result TypeTree ExprFault

-- a test, its fault, and the rest
abbrev pub check_that : Bool → ExprFault → TypeAnswer → TypeAnswer
check_that true f r = r
check_that false f r = Err f

-- a part's answer, where it is the type that is wanted of the part
abbrev pub expect : TypeAnswer → TypeTree → TypeAnswer
expect r t = r >>= (λ s. check_that (same_tree s t) Mismatch (Ok s))

-- a part's answer, the type that is wanted of the part, and the rest
abbrev pub expect_then : TypeAnswer → TypeTree → TypeAnswer → TypeAnswer
expect_then r t k = expect r t >>= (λ s. k)

-- a type, where it is within the limits
abbrev pub within_limits : TypeTree → TypeAnswer
within_limits t = check_that (type_fits t) TooDeep (Ok t)

-- the type of a pair's first part
abbrev pub first_type : TypeTree → TypeAnswer
first_type (pair_ty A B) = Ok A
first_type _ = Err Mismatch

-- the type of a pair's second part
abbrev pub second_type : TypeTree → TypeAnswer
second_type (pair_ty A B) = Ok B
second_type _ = Err Mismatch

-- the type of the first or the second part of a pair, as the form says
abbrev pub part_type : Expression → TypeTree → TypeAnswer
part_type (fst _) P = first_type P
part_type _ P = second_type P

-- the type of what an event carries
abbrev pub carried_type : TypeTree → TypeAnswer
carried_type (event_ty A) = Ok A
carried_type _ = Err Mismatch

-- the type of a list's elements
abbrev pub element_type : TypeTree → TypeAnswer
element_type (list_ty A) = Ok A
element_type _ = Err Mismatch

-- the type of parameter k, from 0
abbrev pub type_of_param : List TypeTree → ℕ → TypeAnswer
type_of_param Ps k = ok_or (slice_get Ps k) NoParam

abbrev mutual
  -- the parts in written order: each, once walked, is tested before the next is walked; a node's
  -- own type comes last
  pub type_walk : List TypeTree → TypeTree → Expression → TypeAnswer
  type_walk Ps A input = within_limits A
  type_walk Ps A (param k) = type_of_param Ps k >>= within_limits
  type_walk Ps A unit_expr = within_limits unit_ty
  type_walk Ps A (bool_expr b) = within_limits bool_ty
  type_walk Ps A (int_expr n) =
      check_that (int_eq (int_wrap w64 n) n) Mismatch (within_limits int_ty)
  type_walk Ps A (pair_expr a b) =
      type_walk Ps A a >>= (λ B. type_walk Ps A b >>= (λ C. within_limits (pair_ty B C)))
  type_walk Ps A (fst e) = type_walk Ps A e >>= (λ P. first_type P >>= within_limits)
  type_walk Ps A (snd e) = type_walk Ps A e >>= (λ P. second_type P >>= within_limits)
  type_walk Ps A (then_expr f g) = type_walk Ps A f >>= (λ B. type_walk Ps B g >>= within_limits)
  type_walk Ps A (neg a) = expect_then (type_walk Ps A a) int_ty (within_limits int_ty)
  type_walk Ps A (add a b) = expect_then (type_walk Ps A a) int_ty
      (expect_then (type_walk Ps A b) int_ty (within_limits int_ty))
  type_walk Ps A (sub a b) = expect_then (type_walk Ps A a) int_ty
      (expect_then (type_walk Ps A b) int_ty (within_limits int_ty))
  type_walk Ps A (mul a b) = expect_then (type_walk Ps A a) int_ty
      (expect_then (type_walk Ps A b) int_ty (within_limits int_ty))
  type_walk Ps A (less a b) = expect_then (type_walk Ps A a) int_ty
      (expect_then (type_walk Ps A b) int_ty (within_limits bool_ty))
  type_walk Ps A (equal a b) =
      type_walk Ps A a >>= (λ B. expect_then (type_walk Ps A b) B (within_limits bool_ty))
  type_walk Ps A (not_expr a) = expect_then (type_walk Ps A a) bool_ty (within_limits bool_ty)
  type_walk Ps A (and_expr a b) =
      expect_then (type_walk Ps A a) bool_ty
      (expect_then (type_walk Ps A b) bool_ty (within_limits bool_ty))
  type_walk Ps A (or_expr a b) =
      expect_then (type_walk Ps A a) bool_ty
      (expect_then (type_walk Ps A b) bool_ty (within_limits bool_ty))
  type_walk Ps A (if_expr c a b) =
      expect_then (type_walk Ps A c) bool_ty
      (type_walk Ps A a >>= (λ B. expect_then (type_walk Ps A b) B (within_limits B)))
  type_walk Ps A (no_event_expr t) = within_limits t >>= (λ T. within_limits (event_ty T))
  type_walk Ps A (event_expr e) = type_walk Ps A e >>= (λ B. within_limits (event_ty B))
  type_walk Ps A (on e d b) = type_walk Ps A e >>=
      (λ E. carried_type E >>=
      (λ V. type_walk Ps A d >>=
      (λ C. within_limits (pair_ty A V) >>=
      (λ I. expect_then (type_walk Ps I b) C (within_limits C)))))
  type_walk Ps A (list_expr t es) = within_limits t >>= (λ T. elements_walk Ps A T es)
  type_walk Ps A (nth e i d) =
      type_walk Ps A e >>=
      (λ L. element_type L >>=
      (λ T. expect_then (type_walk Ps A i) int_ty
      (expect_then (type_walk Ps A d) T (within_limits T))))
  type_walk Ps A (len e) = type_walk Ps A e >>=
      (λ L. element_type L >>= (λ T. within_limits int_ty))

  -- the elements of a list in order, each tested against the type given
  pub elements_walk : List TypeTree → TypeTree → TypeTree → Expressions → TypeAnswer
  elements_walk Ps A t no_more = within_limits (list_ty t)
  elements_walk Ps A t (and_then e es) = expect_then (type_walk Ps A e) t (elements_walk Ps A t es)

-- the type of a whole expression, whose height and size are tested first
abbrev pub type_answer : List TypeTree → TypeTree → Expression → TypeAnswer
type_answer Ps A e = check_that (expression_fits e) TooDeep (type_walk Ps A e)
