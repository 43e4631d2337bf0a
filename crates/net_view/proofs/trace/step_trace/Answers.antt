use Rattle.net_tree.specs.LawStep.{step_of}
use Rattle.net_view.proofs.Traces.{after_there, stops_so}
use Rattle.net_view.proofs.trace.step_trace.Goals as goal

pub unwrap-requires-in-Ok : goal.unwrap-requires-in-Ok
unwrap-requires-in-Ok c =
    after_there c.args.net.now c.take_step.new.net (step_of c.args.step.now) c.in_ok-after-in-Ok.after c.in-Ok.ensures c.in_ok-after-in-Ok.ensures

pub returns-in-Err : goal.returns-in-Err
returns-in-Err c =
    stops_so c.args.net.now c.take_step.new.net (step_of c.args.step.now) c.args.number c.in-Err.fault c.refused.result c.in-Err.ensures.0 c.in-Err.ensures.1
    c.refused.ensures
