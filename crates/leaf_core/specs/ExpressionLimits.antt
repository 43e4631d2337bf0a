-- How tall and how large expressions may be, and typings in which every type is within its limits.
use Rattle.std.specs.Prelude.{◌≤◌, Bool, ◌&&◌, leb, List}
use Rattle.sample_core.specs.TypeTree.{TypeTree, pair_ty}
use Rattle.leaf_core.specs.TypeLimits.{TypeFits}
use Rattle.leaf_core.specs.Expression.{Expression, Expressions, height_of, nodes_in}
use Rattle.leaf_core.specs.ExpressionTyping.{ExpressionTyped, ExpressionsTyped, input_typed, param_typed, unit_typed, bool_typed, int_typed, pair_typed, fst_typed, snd_typed, then_typed, neg_typed, add_typed, sub_typed, mul_typed, less_typed, equal_typed, not_typed, and_typed, or_typed, if_typed, no_event_typed, event_typed, on_typed, list_typed, nth_typed, len_typed, no_more_typed, and_then_typed}

-- an expression within the limits
pub record ExpressionFits (e : Expression) : Type 0 where
  pub shallow : height_of e ≤ 256
  pub small : nodes_in e ≤ 100000

-- whether an expression is within the limits
abbrev pub expression_fits : Expression → Bool
expression_fits e = leb (height_of e) 256 && leb (nodes_in e) 100000

-- every type that arises is within the limits: each node's own, the one that a list or `none` is
-- given, and the input of the last part of `on`
abbrev mutual
  pub Within : {e : Expression} {Ps : List TypeTree} {A B : TypeTree} → ExpressionTyped e Ps A B
      → Type 0
  Within {B = B} input_typed = TypeFits B
  Within {B = B} (param_typed i) = TypeFits B
  Within {B = B} unit_typed = TypeFits B
  Within {B = B} bool_typed = TypeFits B
  Within {B = B} (int_typed f) = TypeFits B
  Within {B = B} (pair_typed h k) = Within h × Within k × TypeFits B
  Within {B = B} (fst_typed h) = Within h × TypeFits B
  Within {B = B} (snd_typed h) = Within h × TypeFits B
  Within {B = B} (then_typed h k) = Within h × Within k × TypeFits B
  Within {B = B} (neg_typed h) = Within h × TypeFits B
  Within {B = B} (add_typed h k) = Within h × Within k × TypeFits B
  Within {B = B} (sub_typed h k) = Within h × Within k × TypeFits B
  Within {B = B} (mul_typed h k) = Within h × Within k × TypeFits B
  Within {B = B} (less_typed h k) = Within h × Within k × TypeFits B
  Within {B = B} (equal_typed h k) = Within h × Within k × TypeFits B
  Within {B = B} (not_typed h) = Within h × TypeFits B
  Within {B = B} (and_typed h k) = Within h × Within k × TypeFits B
  Within {B = B} (or_typed h k) = Within h × Within k × TypeFits B
  Within {B = B} (if_typed h k l) = Within h × Within k × Within l × TypeFits B
  Within {B = B} (no_event_typed {T = T}) = TypeFits T × TypeFits B
  Within {B = B} (event_typed h) = Within h × TypeFits B
  Within {B = B} (on_typed {A = A} {V = V} h k l) = Within h × Within k × TypeFits (pair_ty A V)
      × Within l × TypeFits B
  Within {B = B} (list_typed {T = T} hs) = TypeFits T × AllWithin hs × TypeFits B
  Within {B = B} (nth_typed h k l) = Within h × Within k × Within l × TypeFits B
  Within {B = B} (len_typed h) = Within h × TypeFits B

  -- the same of the elements of a list
  pub AllWithin : {es : Expressions} {Ps : List TypeTree} {A T : TypeTree}
      → ExpressionsTyped es Ps A T → Type 0
  AllWithin no_more_typed = Unit {0}
  AllWithin (and_then_typed h hs) = Within h × AllWithin hs

-- a typing in which every type is within the limits
pub record TypedWithin (e : Expression) (Ps : List TypeTree) (A B : TypeTree) : Type 0 where
  pub given : ExpressionTyped e Ps A B
  pub fits : Within given

-- the same of an expression that is within the limits too
pub record ExpressionTypedWithin (e : Expression) (Ps : List TypeTree) (A B : TypeTree) : Type 0
  where
    pub whole_fits : ExpressionFits e
    pub checked : TypedWithin e Ps A B
