use Rattle.std.proofs.Common.{refl}
use Rattle.stream_text.proofs.Answers.{last_answered}
use Rattle.yampa_run.proofs.Runs.{begins, ends, goes_on, line_stops, stops, stream_stops}
use Rattle.yampa_run.proofs.stream_run.run_on.Goals as goal

pub loop-step-init : goal.loop-step-init
loop-step-init g c = begins _ _ _ _ _ _ c.requires.fresh c.requires.ready c.requires.of_type refl

pub returns-in-Err-answer-clause-stopped : goal.returns-in-Err-answer-clause-stopped
returns-in-Err-answer-clause-stopped g c =
    let given = rw c.in-Ok-Some.field-0-is at c.in-Ok-Some.ensures.answers in
    rw c.stopped.ensures (stops _ _ _ _ _ _ _ c.in-Err-answer.stop
    (line_stops _ _ _ _ _ _ _ _ _ _ _ _ _ _ (c.in-Ok-Some.step, c.in-Some.sample.now) c.loop-step.invariant
    (last_answered _ _ _ _ _ _ given.0 c.in-Some.sample.now given.1 c.in-Some.ensures)
    c.in-Err-answer.ensures.breaks))

pub loop-step-preserved : goal.loop-step-preserved
loop-step-preserved g c =
    let given = rw c.in-Ok-Some.field-0-is at c.in-Ok-Some.ensures.answers in
    rw (c.max-most_visits.ensures, c.last_visits.ensures)
    (goes_on _ _ _ _ _ _ _ _ _ _ _ _ _ _ (c.in-Ok-Some.step, c.in-Some.sample.now) c.loop-step.invariant
    (last_answered _ _ _ _ _ _ given.0 c.in-Some.sample.now given.1 c.in-Some.ensures)
    c.in-Ok-Some.ensures.before c.in-Ok-Some.ensures.few c.in-Ok.ensures.answers)

pub returns-in-Ok-None-clause-done : goal.returns-in-Ok-None-clause-done
returns-in-Ok-None-clause-done g c = ends _ _ _ _ _ _ _ _ _ _ _ _ c.loop-step.invariant (rw c.in-Ok-None.field-0-is at c.in-Ok-None.ensures.answers)

pub returns-in-Err-clause-stopped : goal.returns-in-Err-clause-stopped
returns-in-Err-clause-stopped g c =
    rw c.ended.ensures (stream_stops _ _ _ _ _ _ _ _ _ _ _ _ _ c.loop-step.invariant c.in-Err.ensures.answers)
