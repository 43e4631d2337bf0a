use Rattle.std.proofs.Common.{subst, sym, ap, ◌∙◌}
use Rattle.sample_core.specs.Datum.{event, unit}
use Rattle.sample_core.specs.ValueView.{datum_of}
use Rattle.state_core.specs.RowsView.{row_number}
use Rattle.step_core.specs.Called.{Called, IsPutIn}
use Rattle.step_core.proofs.RunCells.{gather_runs, no_event_stays}
use Rattle.step_core.proofs.RunJoins.{if_ok}
use Rattle.step_core.proofs.cells.start_accum.Goals as goal

pub returns-in-Ok : goal.returns-in-Ok
returns-in-Ok g c =
    if_ok c.start-first.result _ _
    (λ r e s es. gather_runs _ _ _ _ _ _ _ _
    (subst (λ ps. Called (g.R.Rows.keys c.args.on.now.rows.now) (row_number c.args.z) ps unit (datum_of c.in_ok-value.value)) c.params.ensures c.in_ok-value.ensures)
    (subst (λ v. IsPutIn (g.R.Rows.keys c.args.on.now.rows.now) (row_number c.args.g) c.args.on.now.env.now.params (datum_of c.in_ok-value.value) v
    (datum_of c.in-Ok.input)) (ap event c.get.ensures ∙ sym (ap datum_of c.in-Event.is)) c.in-Ok.ensures) e s es)
    c.start-first.ensures

pub returns-in_default : goal.returns-in_default
returns-in_default g c =
    if_ok c.start.result _ _
    (λ r e s es. gather_runs _ _ _ _ _ _ _ _
    (subst (λ ps. Called (g.R.Rows.keys c.args.on.now.rows.now) (row_number c.args.z) ps unit (datum_of c.in_ok-value.value)) c.params.ensures c.in_ok-value.ensures)
    (no_event_stays (g.R.Rows.keys c.args.on.now.rows.now) (row_number c.args.g) c.args.on.now.env.now.params (datum_of c.in_ok-value.value) c.args.x.now
    c.in_default.not-Event) e s es)
    c.start.ensures
