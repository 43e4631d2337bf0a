-- What is to hold where a part of an expression is replaced.
use Rattle.std.specs.Prelude.{◌≡◌, ℕ, List, Some}
use Rattle.sample_core.specs.TypeTree.{TypeTree}
use Rattle.leaf_core.specs.Expression.{Expression}
use Rattle.leaf_core.specs.ExpressionTyping.{ExpressionTyped}
use Rattle.leaf_core.specs.Parts.{part_at, with_part_at, InputAt}
use Rattle.leaf_core.specs.SameValue.{SameValue}

-- where a part of a typed expression, at any path, is replaced by one of its type and its value,
-- the whole keeps its type and its value
abbrev pub SamePartLaw : Type 0
SamePartLaw = (Ps : List TypeTree) (A B C D : TypeTree) (path : List ℕ) (e part whole other : Expression)
    → ExpressionTyped e Ps A B → InputAt Ps A e path C
    → part_at e path ≡ Some part → with_part_at e path other ≡ Some whole
    → ExpressionTyped part Ps C D → ExpressionTyped other Ps C D → SameValue Ps C part other
    → ExpressionTyped whole Ps A B × SameValue Ps A e whole
