use Rattle.std.proofs.Common.{◌≤◌}
use Rattle.cell_core.specs.Queue.{MovesInQueue}
use Rattle.cell_core.specs.Entries.{entries_of}
use Rattle.cell_core.proofs.front.Front.passed.Given as goal

abbrev pub invariant-loop-at : goal.invariant-loop-at
invariant-loop-at l = record {
  down : l.at ≤ l.from;
  moved : MovesInQueue (entries_of l.entries) l.age l.dt l.from l.at;
}

abbrev pub decreases-loop-at : goal.decreases-loop-at
decreases-loop-at l = l.at
