-- What the shape of a key's expression tells of the key's value.
use Rattle.std.proofs.Common.{◌≡◌, ℤ, ◌+ℤ◌, ◌*ℤ◌, Some, ap, sym, ◌∙◌}
use Rattle.std.proofs.lemmas.Int.{int_wrap-add_left}
use Rattle.std.specs.Int.{int_wrap, w64}
use Rattle.sample_core.specs.Datum.{Datum, int, int_of}
use Rattle.leaf_core.specs.ExpressionValue.{wrap}
use Rattle.leaf_core.specs.Shape.{value_by_shape}
use Rattle.leaf_core.specs.declared.shape.Shape.{Shape}
use Rattle.leaf_core.proofs.ShapeValue.{shape_values}
use Rattle.leaf_table.specs.Computes.{OfShape}

-- a value that the shape's name and parts give is the value of each key of that shape
pub by_shape : (s : Shape) (x v : Datum) → value_by_shape s x ≡ Some v → OfShape s x v
by_shape s x v h =
    record {
      named = h;
      fact = λ key ps e. record { value = λ t u. sym (shape_values key.expr ps x v (ap (λ s. value_by_shape s x) e ∙ h)) };
    }

-- a sum of a product that was wrapped, wrapped
pub affine_value : (a b n p s : ℤ) (x : Datum) → n ≡ int_of x → p ≡ int_wrap w64 (a *ℤ n) → s ≡ int_wrap w64 (p +ℤ b)
    → Some (wrap (a *ℤ int_of x +ℤ b)) ≡ Some (int s)
affine_value a b n p s x at product sum =
    ap (λ z. Some (int z)) (sym (sum ∙ ap (λ z. int_wrap w64 (z +ℤ b)) product ∙ int_wrap-add_left w64 (a *ℤ n) b ∙ ap (λ z. int_wrap w64 (a *ℤ z +ℤ b)) at))
