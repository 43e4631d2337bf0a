use Rattle.std.proofs.Common.{◌-◌, ◌≤◌, [], length, map}
use Rattle.std.specs.List.{All}
use Rattle.net_tree.specs.LawStep.{step_of}
use Rattle.cert_check.specs.Derives.{Steps}
use Rattle.net_opt.specs.Optimising.{FirstSteps, MayTake}
use Rattle.net_opt.specs.Search.{Settled}
use Rattle.net_opt.proofs.optimiser.take_steps.Given as goal
use Rattle.net_opt.specs.declared.optimiser.TheConstants.{MOST_TAKEN}

abbrev pub invariant-steps : goal.invariant-steps
invariant-steps l = record {
  lead : Steps l.fn.reached (map step_of l.steps.items) l.reached;
  first : FirstSteps l.fn.reached (map step_of l.steps.items) l.reached;
  may_be_taken : All MayTake (map step_of l.steps.items);
  few : length l.steps.items ≤ MOST_TAKEN;
  settled : Settled l.reached [] l.settled.items;
}

abbrev pub decreases-steps : goal.decreases-steps
decreases-steps l = MOST_TAKEN - length l.steps.items
