use Rattle.std.proofs.Common.{ap, refl, sym, ◌∙◌}
use Rattle.sample_core.specs.ValueView.{datum_of}
use Rattle.step_core.proofs.Flows.{cell_starts}
use Rattle.step_core.proofs.flow.first_cell.Goals as goal

pub returns : goal.returns
returns g c =
    cell_starts _ _ _ _ _ _ _ _ _ _ _ _ c.form_of-form.ensures c.in_ok-push.ensures (ap datum_of c.put.ensures) refl
    (λ net s i e. c.in_ok-first.ensures net s i (e ∙ sym c.params.ensures))
