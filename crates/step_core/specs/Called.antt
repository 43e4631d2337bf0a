-- What a call of a row promises.
use Rattle.std.specs.Prelude.{◌≡◌, ℕ, List, Option, Some, None, slice_get}
use Rattle.sample_core.specs.Datum.{Datum, unit, event, pair}
use Rattle.sample_core.specs.HasType.{HasType, TypedParams}
use Rattle.leaf_core.specs.ExpressionValue.{value_of}
use Rattle.leaf_core.specs.KeyTree.{KeyTree}

-- what a call of row k at these parameters and x promises of y
abbrev pub Called : List KeyTree → ℕ → List Datum → Datum → Datum → Type 0
Called keys k ps x y = (key : KeyTree) → slice_get keys k ≡ Some key
    → TypedParams key.params ps → HasType x key.input → y ≡ value_of key.expr ps x

-- v is what a constant's row promises; `unit` where a form has no constant
abbrev pub IsConstant : List KeyTree → Option ℕ → List Datum → Datum → Type 0
IsConstant keys (Some k) ps v = Called keys k ps unit v
IsConstant keys None ps v = v ≡ unit

-- in place of an event v, a is the event of what row g promises of the accumulator and v
abbrev pub IsPutIn : List KeyTree → ℕ → List Datum → Datum → Datum → Datum → Type 0
IsPutIn keys g ps acc (event v) a =
    (u : Datum) × Called keys g ps (pair acc v) u × (a ≡ event u)
IsPutIn keys g ps acc x a = a ≡ x
