-- What rows answer where they are typed.
use Rattle.std.proofs.Common.{◌≡◌, ℕ, List, sym, ap, ◌∙◌}
use Rattle.sample_core.specs.Datum.{Datum}
use Rattle.sample_core.specs.TypeTree.{TypeTree}
use Rattle.sample_core.specs.HasType.{HasType, TypedParams}
use Rattle.leaf_core.specs.KeyTree.{KeyTree}
use Rattle.leaf_core.specs.ExpressionValue.{value_of}
use Rattle.step_core.specs.RowTyping.{RowTyped, expression_in}
use Rattle.step_core.specs.StateTyping.{row_value}
use Rattle.step_core.specs.Called.{Called}

module _ (keys : List KeyTree) where
  pub called_value : (k : ℕ) (ps : List Datum) (x y : Datum) {Ps : List TypeTree} {A B : TypeTree} → Called keys k ps x y → RowTyped keys k Ps A B
      → TypedParams Ps ps → HasType x A → y ≡ row_value keys k ps x
  called_value k ps x y {Ps} {A} h r tp t =
      h (record { expr = r.expr; params = Ps; input = A }) r.is_row tp t ∙ ap (λ o. value_of (expression_in o) ps x) (sym r.is_row)
