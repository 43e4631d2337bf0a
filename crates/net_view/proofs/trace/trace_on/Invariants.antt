use Rattle.std.proofs.Common.{◌≡◌, map, take}
use Rattle.net_tree.specs.LawStep.{step_of}
use Rattle.net_view.specs.Trace.{AreChanges, changed_of}
use Rattle.net_view.proofs.trace.trace_on.Given as goal

abbrev pub invariant-loop-step : goal.invariant-loop-step
invariant-loop-step l = record {
  counted : l.number ≡ l.step-index;
  taken : AreChanges l.fn.net (map step_of (take l.step-index l.steps)) (map changed_of l.changes.items) l.net;
}
