use Rattle.std.proofs.Common.{subst, sym, ap, ◌∙◌}
use Rattle.sample_core.specs.Datum.{event}
use Rattle.sample_core.specs.ValueView.{datum_of}
use Rattle.state_core.specs.RowsView.{row_number}
use Rattle.step_core.specs.Called.{IsPutIn}
use Rattle.step_core.proofs.RunCells.{accum_runs, no_event_stays}
use Rattle.step_core.proofs.RunJoins.{if_ok}
use Rattle.step_core.proofs.cells.step_accum.Goals as goal

pub returns-in_ok-input-in-Event : goal.returns-in_ok-input-in-Event
returns-in_ok-input-in-Event g c =
    if_ok c.push_step-done.result _ _
    (λ y h. (
      h.0,
      h.2,
      λ d. accum_runs _ _ _ _ _ _ _ _ _ (sym h.1) c.in-Some.ensures
          (subst (λ v. IsPutIn (g.R.Rows.keys c.args.on.now.rows.now) (row_number c.args.g) c.args.on.now.env.now.params (datum_of c.in-Some.held.now) v
          (datum_of c.in_ok-input-in-Event.input)) (ap event c.get.ensures ∙ sym (ap datum_of c.in-Event.is)) c.in_ok-input-in-Event.ensures) d,
    ))
    c.push_step-done.ensures

pub returns-in_default : goal.returns-in_default
returns-in_default g c =
    if_ok c.push_step.result _ _
    (λ y h. (
      h.0,
      h.2,
      λ d. accum_runs _ _ _ _ _ _ _ _ _ (sym h.1) c.in-Some.ensures
          (no_event_stays (g.R.Rows.keys c.args.on.now.rows.now) (row_number c.args.g) c.args.on.now.env.now.params (datum_of c.in-Some.held.now) c.args.x.now
          c.in_default.not-Event) d,
    ))
    c.push_step.ensures
