-- When the code gives the checking walk's answer.
use Rattle.std.specs.Prelude.{Result}
use Rattle.sample_core.specs.Answer.{GivesUnless}
use Rattle.sample_core.specs.TypeView.{type_of}
use Rattle.sample_core.specs.TypeTree.{TypeTree}
use Rattle.sample_core.specs.declared.ty.Ty.{Ty}
use Rattle.leaf_core.specs.declared.typing.ExprFault.{ExprFault}
use Rattle.leaf_core.specs.declared.typing.ExprFault.TheVariants.{Memory}
use Rattle.leaf_core.specs.ExpressionCheck.{TypeAnswer}

-- the type or the fault that is answered; only `Memory`, where allocation failed, says nothing of
-- the answer
abbrev pub GivesType : Result Ty ExprFault → TypeAnswer → Type 0
GivesType result answer = GivesUnless Memory type_of result answer

-- a test of an answer that it is the type, or the fault that is answered
abbrev pub Passes : {X : Type 0} → Result X ExprFault → TypeAnswer → TypeTree → Type 0
Passes result answer t = GivesUnless Memory (λ _. t) result answer
