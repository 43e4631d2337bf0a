-- What is to hold of the laws.
use Rattle.std.specs.Prelude.{ℕ, ◌≡◌, ◌↔◌, ◌≤◌, List}
use Rattle.sample_core.specs.Datum.{Datum}
use Rattle.sample_core.specs.TypeTree.{TypeTree}
use Rattle.sample_core.specs.HasType.{HasType, TypedParams}
use Rattle.leaf_core.specs.Expression.{Expression}
use Rattle.leaf_core.specs.ExpressionValue.{value_of}
use Rattle.leaf_core.specs.ExpressionTyping.{ExpressionTyped}
use Rattle.expr_laws.specs.ExpressionLaw.{ExpressionLaw}
use Rattle.net_tree.specs.declared.law_step.TheConstants.{LAST_EXPRESSION_LAW}

-- where a law's left side is typed, both sides have one value at all parameters and inputs of those
-- types
abbrev pub SidesValueLaw : Type 0
SidesValueLaw = (n : ℕ) (l r : Expression) → ExpressionLaw n l r → (Ps : List TypeTree) (A B : TypeTree)
    → ExpressionTyped l Ps A B → (ps : List Datum) (x : Datum) → TypedParams Ps ps → HasType x A
    → value_of l ps x ≡ value_of r ps x

-- where a law's left side is typed, its right side has the same type
abbrev pub SidesTypeLaw : Type 0
SidesTypeLaw = (n : ℕ) (l r : Expression) → ExpressionLaw n l r → (Ps : List TypeTree) (A B : TypeTree)
    → ExpressionTyped l Ps A B → ExpressionTyped r Ps A B

-- a law's left side determines its right side
abbrev pub OneRightSideLaw : Type 0
OneRightSideLaw = (n : ℕ) (l r s : Expression) → ExpressionLaw n l r → ExpressionLaw n l s → r ≡ s

-- there is a law of a number exactly from 1 to the last law's
abbrev pub LawNumbersLaw : Type 0
LawNumbersLaw = (n : ℕ)
    → ((l : Expression) × (r : Expression) × ExpressionLaw n l r) ↔ ((1 ≤ n) × (n ≤ LAST_EXPRESSION_LAW))
