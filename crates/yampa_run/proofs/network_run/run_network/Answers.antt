use Rattle.yampa_run.proofs.NetworkRun.{stopped, unbound}
use Rattle.yampa_run.proofs.network_run.run_network.Goals as goal

pub returns-in-Err-ended-clause-ran : goal.returns-in-Err-ended-clause-ran
returns-in-Err-ended-clause-ran g c =
    stopped _ _ _ _ c.in-Ok.ensures.input c.in-Ok.ensures.network _ _ _ _ _ _ c.in-Ok.ensures.found c.in-Err-ended.ensures.stopped c.run_refusal.ensures

pub returns-in-Err-clause-ran : goal.returns-in-Err-clause-ran
returns-in-Err-clause-ran g c = unbound _ _ _ _ _ _ c.in-Err.ensures.missing c.bind_refusal-refusal.ensures
