use Rattle.std.proofs.Common.{ap, ◌∙◌}
use Rattle.code_fits.specs.Saturated.{saturated}
use Rattle.code_fits.specs.Sizes.{value_size}
use Rattle.code_fits.specs.Tables.{bound_of}
use Rattle.code_fits.proofs.KeptSizes.{sizes-next}
use Rattle.code_fits.proofs.bytes.value_bytes.Goals as goal

pub loop-k-preserved : goal.loop-k-preserved
loop-k-preserved c =
    sizes-next c.args.types.now c.args.bounds.now c.loop-k.all.items _ c.loop-k.k c.in_ok-bytes.bytes c.loop-k.invariant
    (c.in_ok-bytes.ensures ∙ ap (λ T. saturated (value_size (bound_of c.args.types.now c.args.bounds.now) T)) c.in_ok-ty.ensures)
    c.in_ok-push.ensures.items
