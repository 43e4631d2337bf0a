use Rattle.std.proofs.Common.{◌-◌}
use Rattle.sample_core.specs.TypeView.{type_of}
use Rattle.step_core.specs.RunnerState.{network_in}
use Rattle.step_core.specs.RunnerView.{runner_state}
use Rattle.stream_text.specs.ReaderState.{reader_state}
use Rattle.stream_text.specs.declared.line.TheConstants.{MOST_SAMPLES}
use Rattle.yampa_run.proofs.Runs.{Progress}
use Rattle.yampa_run.proofs.stream_run.run_on.Given as goal

abbrev pub invariant-loop-step : goal.invariant-loop-step
invariant-loop-step g l = Progress (type_of l.ty) (network_in (runner_state l.fn.runner)) (g.R.Read.remaining l.fn.reader) (g.R.Read.remaining l.reader)
    (g.W.Write.contents l.fn.writer) (g.W.Write.contents l.writer) (reader_state l.stream) (runner_state l.runner) l.lines l.most_visits

abbrev pub decreases-loop-step : goal.decreases-loop-step
decreases-loop-step g l = MOST_SAMPLES - l.lines
