use Rattle.std.proofs.Common.{ap₂, ◌∙◌, pos, ◌+ℤ◌}
use Rattle.std.specs.Int.{int_wrap, w64}
use Rattle.std.proofs.lemmas.Int.{int_wrap-add_right, to_z-of_z}
use Rattle.cell_core.proofs.step.wrapped_time.Goals as goal

pub returns : goal.returns
returns c =
    to_z-of_z w64 c.wrapped_sum.result (record { sfits = c.wrapped_sum.type_inv })
    ∙ c.wrapped_sum.ensures
    ∙ ap₂ (λ u v. int_wrap w64 (u +ℤ v)) (to_z-of_z w64 c.args.before c.ranges.before)
    (to_z-of_z w64 c.signed.result (record { sfits = c.signed.type_inv }) ∙ c.signed.ensures)
    ∙ int_wrap-add_right w64 c.args.before (pos c.args.dt)
