use Rattle.std.proofs.Common.{◌≡◌, ◌++◌, length, reverse}
use Rattle.cell_core.specs.Cell.{due}
use Rattle.cell_core.specs.Queue.{times_behind, place, then_found}
use Rattle.cell_core.specs.Entries.{entries_of}
use Rattle.cell_core.specs.Earlier.{in_blocks}
use Rattle.cell_core.specs.Delays.{front_of, through}
use Rattle.cell_core.proofs.queue.gather.Given as goal

-- what is found so far, and what is still behind, are all that go through
abbrev pub invariant-loop-rest : goal.invariant-loop-rest
invariant-loop-rest l =
    then_found (due l.dt (place (front_of l.front) 0).1 (times_behind l.left (reverse (entries_of l.samples) ++ in_blocks l.earlier))) l.entries
    ≡ through l.front l.behind l.dt

abbrev pub decreases-loop-rest : goal.decreases-loop-rest
decreases-loop-rest l = length l.earlier
