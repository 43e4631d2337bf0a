use Rattle.std.proofs.Common.{subst}
use Rattle.sample_core.specs.ValueView.{datum_of}
use Rattle.state_core.specs.RowsView.{row_number}
use Rattle.step_core.specs.Called.{Called}
use Rattle.step_core.proofs.RunJoins.{if_ok}
use Rattle.step_core.proofs.choice.chosen_among.Goals as goal

pub returns : goal.returns
returns g c =
    let w = datum_of c.in_ok-which.which in
    let called = subst (λ ps. Called (g.R.Rows.keys c.args.on.now.rows.now) (row_number c.args.choice.chooser) ps (datum_of c.args.value.now) w) c.params.ensures
    c.in_ok-which.ensures in
    if_ok c.chosen_by-chosen.result _ _ (λ fs h. (w, called, h)) c.chosen_by-chosen.ensures
