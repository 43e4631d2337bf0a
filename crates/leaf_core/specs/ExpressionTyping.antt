-- When an expression is typed: under the types of its parameters and of its input.
use Rattle.std.specs.Prelude.{ℕ, zero, suc, ℤ, Bool, FitsSigned, List, ◌∷◌}
use Rattle.std.specs.Int.{w64}
use Rattle.sample_core.specs.TypeTree.{TypeTree, unit_ty, bool_ty, int_ty, pair_ty, event_ty, list_ty}
use Rattle.leaf_core.specs.Expression.{Expression, Expressions, input, param, unit_expr, bool_expr, int_expr, pair_expr, fst, snd, then_expr, neg, add, sub, mul, less, equal, not_expr, and_expr, or_expr, if_expr, no_event_expr, event_expr, on, list_expr, nth, len, no_more, and_then}

-- parameter k has this type
pub data ParamAt : List TypeTree → ℕ → TypeTree → Type 0 where
  param_here : {A : TypeTree} {Ps : List TypeTree} → ParamAt (A ∷ Ps) zero A
  param_after : {A : TypeTree} {Ps : List TypeTree} {k : ℕ} {B : TypeTree} → ParamAt Ps k B
      → ParamAt (A ∷ Ps) (suc k) B

mutual
  -- an expression, the parameters' types, the input's and its own; one constructor a row of the
  -- table
  pub data ExpressionTyped : Expression → List TypeTree → TypeTree → TypeTree → Type 0 where
    input_typed : {Ps : List TypeTree} {A : TypeTree} → ExpressionTyped input Ps A A
    param_typed : {Ps : List TypeTree} {A B : TypeTree} {k : ℕ} → ParamAt Ps k B
        → ExpressionTyped (param k) Ps A B
    unit_typed : {Ps : List TypeTree} {A : TypeTree} → ExpressionTyped unit_expr Ps A unit_ty
    bool_typed : {Ps : List TypeTree} {A : TypeTree} {b : Bool}
        → ExpressionTyped (bool_expr b) Ps A bool_ty
    int_typed : {Ps : List TypeTree} {A : TypeTree} {n : ℤ} → FitsSigned w64 n
        → ExpressionTyped (int_expr n) Ps A int_ty
    pair_typed : {Ps : List TypeTree} {A B C : TypeTree} {a b : Expression}
        → ExpressionTyped a Ps A B → ExpressionTyped b Ps A C
        → ExpressionTyped (pair_expr a b) Ps A (pair_ty B C)
    fst_typed : {Ps : List TypeTree} {A B C : TypeTree} {e : Expression}
        → ExpressionTyped e Ps A (pair_ty B C) → ExpressionTyped (fst e) Ps A B
    snd_typed : {Ps : List TypeTree} {A B C : TypeTree} {e : Expression}
        → ExpressionTyped e Ps A (pair_ty B C) → ExpressionTyped (snd e) Ps A C
    then_typed : {Ps : List TypeTree} {A B C : TypeTree} {f g : Expression}
        → ExpressionTyped f Ps A B → ExpressionTyped g Ps B C
        → ExpressionTyped (then_expr f g) Ps A C
    neg_typed : {Ps : List TypeTree} {A : TypeTree} {a : Expression} → ExpressionTyped a Ps A int_ty
        → ExpressionTyped (neg a) Ps A int_ty
    add_typed : {Ps : List TypeTree} {A : TypeTree} {a b : Expression}
        → ExpressionTyped a Ps A int_ty → ExpressionTyped b Ps A int_ty
        → ExpressionTyped (add a b) Ps A int_ty
    sub_typed : {Ps : List TypeTree} {A : TypeTree} {a b : Expression}
        → ExpressionTyped a Ps A int_ty → ExpressionTyped b Ps A int_ty
        → ExpressionTyped (sub a b) Ps A int_ty
    mul_typed : {Ps : List TypeTree} {A : TypeTree} {a b : Expression}
        → ExpressionTyped a Ps A int_ty → ExpressionTyped b Ps A int_ty
        → ExpressionTyped (mul a b) Ps A int_ty
    less_typed : {Ps : List TypeTree} {A : TypeTree} {a b : Expression}
        → ExpressionTyped a Ps A int_ty → ExpressionTyped b Ps A int_ty
        → ExpressionTyped (less a b) Ps A bool_ty
    equal_typed : {Ps : List TypeTree} {A B : TypeTree} {a b : Expression}
        → ExpressionTyped a Ps A B → ExpressionTyped b Ps A B
        → ExpressionTyped (equal a b) Ps A bool_ty
    not_typed : {Ps : List TypeTree} {A : TypeTree} {a : Expression}
        → ExpressionTyped a Ps A bool_ty → ExpressionTyped (not_expr a) Ps A bool_ty
    and_typed : {Ps : List TypeTree} {A : TypeTree} {a b : Expression}
        → ExpressionTyped a Ps A bool_ty → ExpressionTyped b Ps A bool_ty
        → ExpressionTyped (and_expr a b) Ps A bool_ty
    or_typed : {Ps : List TypeTree} {A : TypeTree} {a b : Expression}
        → ExpressionTyped a Ps A bool_ty → ExpressionTyped b Ps A bool_ty
        → ExpressionTyped (or_expr a b) Ps A bool_ty
    if_typed : {Ps : List TypeTree} {A B : TypeTree} {c a b : Expression}
        → ExpressionTyped c Ps A bool_ty → ExpressionTyped a Ps A B → ExpressionTyped b Ps A B
        → ExpressionTyped (if_expr c a b) Ps A B
    no_event_typed : {Ps : List TypeTree} {A T : TypeTree}
        → ExpressionTyped (no_event_expr T) Ps A (event_ty T)
    event_typed : {Ps : List TypeTree} {A B : TypeTree} {e : Expression} → ExpressionTyped e Ps A B
        → ExpressionTyped (event_expr e) Ps A (event_ty B)
    on_typed : {Ps : List TypeTree} {A C V : TypeTree} {e d b : Expression}
        → ExpressionTyped e Ps A (event_ty V) → ExpressionTyped d Ps A C
        → ExpressionTyped b Ps (pair_ty A V) C → ExpressionTyped (on e d b) Ps A C
    list_typed : {Ps : List TypeTree} {A T : TypeTree} {es : Expressions}
        → ExpressionsTyped es Ps A T → ExpressionTyped (list_expr T es) Ps A (list_ty T)
    nth_typed : {Ps : List TypeTree} {A T : TypeTree} {e i d : Expression}
        → ExpressionTyped e Ps A (list_ty T) → ExpressionTyped i Ps A int_ty
        → ExpressionTyped d Ps A T → ExpressionTyped (nth e i d) Ps A T
    len_typed : {Ps : List TypeTree} {A T : TypeTree} {e : Expression}
        → ExpressionTyped e Ps A (list_ty T) → ExpressionTyped (len e) Ps A int_ty

  -- each element has the one type
  pub data ExpressionsTyped : Expressions → List TypeTree → TypeTree → TypeTree → Type 0 where
    no_more_typed : {Ps : List TypeTree} {A T : TypeTree} → ExpressionsTyped no_more Ps A T
    and_then_typed : {Ps : List TypeTree} {A T : TypeTree} {e : Expression} {es : Expressions}
        → ExpressionTyped e Ps A T → ExpressionsTyped es Ps A T
        → ExpressionsTyped (and_then e es) Ps A T
