use Rattle.std.proofs.Common.{◌+◌, [], map, refl, sym, subst, arith}
use Rattle.net_tree.specs.LawStep.{step_of}
use Rattle.net_view.specs.Trace.{AreChanges, IsStepTrace, changed_of, no_change, stopped_of}
use Rattle.net_view.proofs.Traces.{changed_more, stopped_at}
use Rattle.net_view.proofs.trace.trace_on.Goals as goal

pub loop-step-init : goal.loop-step-init
loop-step-init c = record {
  counted = refl;
  taken = subst (λ xs. AreChanges c.args.net.now [] (map changed_of xs) c.args.net.now) (sym c.new-changes.ensures.items) no_change;
}

pub returns-in-Refused : goal.returns-in-Refused
returns-in-Refused c =
    stopped_at c.args.net.now c.loop-step.net c.args.steps.now c.loop-step.step-index c.step-item.result (map changed_of c.loop-step.changes.items)
    (c.loop-step.number + 1) (stopped_of c.in-Refused.stop) c.loop-step-test.true c.step-item.is (omega arith) c.loop-step.invariant.taken
    (subst (IsStepTrace c.loop-step.net (step_of c.step-item.result) (c.loop-step.number + 1) c.step_trace.new.net) c.in-Refused.is c.in_ok-change.ensures)

pub loop-step-preserved : goal.loop-step-preserved
loop-step-preserved c = record {
  counted = omega arith;
  taken =
      changed_more c.args.net.now c.loop-step.net c.step_trace.new.net c.args.steps.now c.loop-step.step-index c.step-item.result c.loop-step.changes.items
      c.push.new.self.items c.in-Taken.change c.loop-step-test.true c.step-item.is c.in_ok-push-in-Taken.ensures.items c.loop-step.invariant.taken
      (subst (IsStepTrace c.loop-step.net (step_of c.step-item.result) (c.loop-step.number + 1) c.step_trace.new.net) c.in-Taken.is c.in_ok-change.ensures);
}
