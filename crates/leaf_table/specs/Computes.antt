-- What a stored closure promises of what it answers.
use Rattle.std.specs.Prelude.{◌≡◌, List, Some}
use Rattle.sample_core.specs.Datum.{Datum}
use Rattle.sample_core.specs.HasType.{HasType, TypedParams}
use Rattle.leaf_core.specs.ExpressionValue.{value_of}
use Rattle.leaf_core.specs.KeyTree.{KeyTree}
use Rattle.leaf_core.specs.Shape.{shape, value_by_shape}
use Rattle.leaf_core.specs.declared.shape.Shape.{Shape}

-- v is the value of the key's expression at these arguments, where they are of the key's types
pub record Computes (key : KeyTree) (ps : List Datum) (x v : Datum) : Type 0 where
  pub value : TypedParams key.params ps → HasType x key.input → v ≡ value_of key.expr ps x

-- v is what the shape gives of x, and so the value of every key whose expression has that shape
pub record OfShape (s : Shape) (x v : Datum) : Type 0 where
  pub named : value_by_shape s x ≡ Some v
  pub fact : (key : KeyTree) (ps : List Datum) → shape key.expr ≡ s → Computes key ps x v
