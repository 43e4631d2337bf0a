use Rattle.std.proofs.Common.{◌∙◌}
use Rattle.std.proofs.lemmas.Int.{to_z-of_z}
use Rattle.std.specs.Int.{w64}
use Rattle.cell_core.proofs.Wraps.{signed_is}
use Rattle.cell_core.proofs.step.signed.Goals as goal

pub returns : goal.returns
returns c =
    to_z-of_z w64 c.cast_signed.result (record { sfits = c.cast_signed.type_inv })
    ∙ c.cast_signed.ensures
    ∙ signed_is c.args.dt c.ranges.dt.fits
