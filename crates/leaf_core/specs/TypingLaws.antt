-- What is to hold of values and types of expressions.
use Rattle.std.specs.Prelude.{◌≡◌, ◌↔◌, List, IsTrue, Ok}
use Rattle.sample_core.specs.Datum.{Datum}
use Rattle.sample_core.specs.TypeTree.{TypeTree}
use Rattle.sample_core.specs.HasType.{HasType, TypedParams}
use Rattle.leaf_core.specs.Expression.{Expression}
use Rattle.leaf_core.specs.ExpressionValue.{value_of, same_datum}
use Rattle.leaf_core.specs.ExpressionTyping.{ExpressionTyped}
use Rattle.leaf_core.specs.ExpressionLimits.{ExpressionTypedWithin}
use Rattle.leaf_core.specs.ExpressionCheck.{type_answer}

-- the test that `equal` makes is equality
abbrev pub EqualityLaw : Type 0
EqualityLaw = (v w : Datum) → IsTrue (same_datum v w) ↔ (v ≡ w)

-- a typed expression has a value of its type, at all parameters and inputs of theirs
abbrev pub SoundnessLaw : Type 0
SoundnessLaw = (e : Expression) (Ps : List TypeTree) (A B : TypeTree) → ExpressionTyped e Ps A B
    → (ps : List Datum) (x : Datum) → TypedParams Ps ps → HasType x A → HasType (value_of e ps x) B

-- an expression has at most one type
abbrev pub OneExpressionTypeLaw : Type 0
OneExpressionTypeLaw = (e : Expression) (Ps : List TypeTree) (A B C : TypeTree) → ExpressionTyped e Ps A B
    → ExpressionTyped e Ps A C → B ≡ C

-- the checking walk answers a type if and only if the expression has it within all limits
abbrev pub ExactnessLaw : Type 0
ExactnessLaw = (e : Expression) (Ps : List TypeTree) (A B : TypeTree)
    → (type_answer Ps A e ≡ Ok B) ↔ ExpressionTypedWithin e Ps A B
