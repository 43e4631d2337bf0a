use Rattle.yampa_run.proofs.Runs.{nothing_moved, stops_same}
use Rattle.yampa_run.proofs.stream_run.run.Goals as goal

pub returns-in_default-clause-stopped : goal.returns-in_default-clause-stopped
returns-in_default-clause-stopped g c = nothing_moved _ _ _ _

pub returns-clause-stopped : goal.returns-clause-stopped
returns-clause-stopped g c = stops_same _ _ _ _ _ _ _ _ _ c.input.ensures c.new-runner.ensures.network c.run_on-ended.ensures.stopped
