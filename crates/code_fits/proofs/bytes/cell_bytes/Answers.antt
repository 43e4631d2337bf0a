use Rattle.std.proofs.Common.{◌+◌, ◌*◌, refl, sym, subst, ◌≡◌}
use Rattle.code_fits.specs.Saturated.{saturated}
use Rattle.code_fits.specs.Sizes.{cell_size}
use Rattle.code_fits.proofs.bytes.cell_bytes.Goals as goal

pub returns-in-Delay : goal.returns-in-Delay
returns-in-Delay c = λ v h.
    subst (λ form. c.plus-in-Delay-2.result ≡ saturated (cell_size form v)) (sym c.in-Delay.is)
    (c.plus-in-Delay-2.ensures ((v + 8) * c.in-Delay.q + v) 16
    (c.plus-in-Delay.ensures ((v + 8) * c.in-Delay.q) v (c.times.ensures (v + 8) (c.plus.ensures v 8 h refl)) h) refl)
