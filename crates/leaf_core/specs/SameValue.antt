-- Expressions of one value.
use Rattle.std.specs.Prelude.{◌≡◌, List}
use Rattle.sample_core.specs.Datum.{Datum}
use Rattle.sample_core.specs.TypeTree.{TypeTree}
use Rattle.sample_core.specs.HasType.{HasType, TypedParams}
use Rattle.leaf_core.specs.Expression.{Expression}
use Rattle.leaf_core.specs.ExpressionValue.{value_of}

-- under parameters of types Ps and at inputs of type A both expressions have the same value
abbrev pub SameValue : List TypeTree → TypeTree → Expression → Expression → Type 0
SameValue Ps A e s = (ps : List Datum) (x : Datum) → TypedParams Ps ps → HasType x A
    → value_of e ps x ≡ value_of s ps x
