-- What a law answers at an expression.
use Rattle.std.specs.Prelude.{ℕ, ◌≡◌, List, Option, Some, None, MatchOption}
use Rattle.sample_core.specs.Datum.{Datum}
use Rattle.sample_core.specs.TypeTree.{TypeTree}
use Rattle.sample_core.specs.HasType.{HasType, TypedParams}
use Rattle.leaf_core.specs.Expression.{Expression}
use Rattle.leaf_core.specs.ExpressionValue.{value_of}
use Rattle.leaf_core.specs.ExpressionTyping.{ExpressionTyped}
use Rattle.leaf_core.specs.ExpressionView.{expression_of}
use Rattle.leaf_core.specs.declared.expr.Expr.{Expr}
use Rattle.net_tree.specs.declared.law_step.Law.{Law}
use Rattle.net_tree.specs.declared.law_step.Law.TheVariants as L
use Rattle.net_tree.specs.declared.law_step.Direction.{Direction}
use Rattle.net_tree.specs.declared.law_step.Direction.TheVariants.{Forward, Backward}
use Rattle.expr_laws.specs.ExpressionLaw.{ExpressionLaw}

-- a law, its direction, the expression at hand, the one that is given, and the answer: forward,
-- with none given, the right side of the law whose left side is at hand; backward the one that is
-- given, where the law leads from it to exactly the one at hand
pub data ExpressionAnswer : Law → Direction → Expression → Option Expression → Expression → Type 0 where
  forward_answer : {n : ℕ} {e r : Expression} → ExpressionLaw n e r
      → ExpressionAnswer (L.E n) Forward e None r
  backward_answer : {n : ℕ} {e g : Expression} → ExpressionLaw n g e
      → ExpressionAnswer (L.E n) Backward e (Some g) g

-- an answer, or none if there is none
abbrev pub IsExpressionAnswer : Law → Direction → Expression → Option Expression → Option Expr → Type 0
IsExpressionAnswer law direction e given answer =
    MatchOption answer
    ((r : Expression) → ExpressionAnswer law direction e given r → ⊥)
    (λ r. ExpressionAnswer law direction e given (expression_of r))

-- the right side of law n whose left side is e, or none where e is no left side of it
abbrev pub IsRightSide : ℕ → Expression → Option Expr → Type 0
IsRightSide n e answer =
    MatchOption answer ((r : Expression) → ExpressionLaw n e r → ⊥)
    (λ r. ExpressionLaw n e (expression_of r))

-- there is at most one answer
abbrev pub OneAnswerLaw : Type 0
OneAnswerLaw = (law : Law) (direction : Direction) (e : Expression) (given : Option Expression)
    (r s : Expression) → ExpressionAnswer law direction e given r
    → ExpressionAnswer law direction e given s → r ≡ s

-- where both are typed alike, the expression at hand and the answer have one value at all
-- parameters and inputs of those types
abbrev pub AnswerValueLaw : Type 0
AnswerValueLaw = (law : Law) (direction : Direction) (e : Expression) (given : Option Expression)
    (r : Expression) → ExpressionAnswer law direction e given r → (Ps : List TypeTree)
    (A B : TypeTree) → ExpressionTyped e Ps A B → ExpressionTyped r Ps A B → (ps : List Datum)
    (x : Datum) → TypedParams Ps ps → HasType x A → value_of e ps x ≡ value_of r ps x
