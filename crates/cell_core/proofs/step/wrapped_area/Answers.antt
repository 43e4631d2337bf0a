use Rattle.std.proofs.Common.{ap₂, ◌∙◌, pos, ◌+ℤ◌, ◌*ℤ◌}
use Rattle.std.specs.Int.{int_wrap, w64}
use Rattle.std.proofs.lemmas.Int.{int_wrap-add_right, int_wrap-mul_left, to_z-of_z}
use Rattle.cell_core.proofs.step.wrapped_area.Goals as goal

-- each number goes through its bits from one call to the next
pub returns : goal.returns
returns c =
    to_z-of_z w64 c.wrapped_sum.result (record { sfits = c.wrapped_sum.type_inv })
    ∙ c.wrapped_sum.ensures
    ∙ ap₂ (λ u v. int_wrap w64 (u +ℤ v)) (to_z-of_z w64 c.args.sum c.ranges.sum)
    (to_z-of_z w64 c.wrapped_product.result (record { sfits = c.wrapped_product.type_inv })
    ∙ c.wrapped_product.ensures
    ∙ ap₂ (λ u v. int_wrap w64 (u *ℤ v)) (to_z-of_z w64 c.signed.result (record { sfits = c.signed.type_inv }) ∙ c.signed.ensures)
    (to_z-of_z w64 c.args.before c.ranges.before)
    ∙ int_wrap-mul_left w64 (pos c.args.dt) c.args.before)
    ∙ int_wrap-add_right w64 c.args.sum (pos c.args.dt *ℤ c.args.before)
