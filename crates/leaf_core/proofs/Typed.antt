-- What the checking walk answers, said by the typing alone.
use Rattle.std.proofs.Common.{List, Result, Ok, Err, IfOk, subst}
use Rattle.sample_core.specs.TypeTree.{TypeTree}
use Rattle.sample_core.specs.TypeView.{type_of}
use Rattle.sample_core.specs.declared.ty.Ty.{Ty}
use Rattle.leaf_core.specs.Expression.{Expression}
use Rattle.leaf_core.specs.ExpressionCheck.{type_answer}
use Rattle.leaf_core.specs.ExpressionLimits.{ExpressionTypedWithin}
use Rattle.leaf_core.specs.CheckAnswer.{GivesType}
use Rattle.leaf_core.specs.declared.typing.ExprFault.{ExprFault}
use Rattle.leaf_core.proofs.Exactness.{type_answer-exact}

module _ (Ps : List TypeTree) (A : TypeTree) (e : Expression) where
  -- a type that is answered is the expression's
  pub answer_typed : (r : Result Ty ExprFault) → GivesType r (type_answer Ps A e) → IfOk r (λ t. ExpressionTypedWithin e Ps A (type_of t))
  answer_typed (Ok t) h = (type_answer-exact Ps A e (type_of t)).0 h
  answer_typed (Err f) h = tt

  -- the type that the expression has is answered
  pub answer_only : (r : Result Ty ExprFault) → GivesType r (type_answer Ps A e) → (t : TypeTree) → ExpressionTypedWithin e Ps A t → GivesType r (Ok t)
  answer_only r h t k = subst (λ z. GivesType r z) ((type_answer-exact Ps A e t).1 k) h
