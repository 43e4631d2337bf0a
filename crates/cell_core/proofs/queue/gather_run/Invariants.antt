use Rattle.std.proofs.Common.{ℕ, List, Option, length, reverse}
use Rattle.sample_core.specs.Datum.{Datum}
use Rattle.cell_core.specs.Entries.{entries_of}
use Rattle.cell_core.specs.Queue.{Gathers}
use Rattle.cell_core.proofs.queue.gather_run.Given as goal

-- whatever the rest gives beside those so far is what all the samples give
abbrev pub invariant-each : goal.invariant-each
invariant-each l = (r : Option ℕ) (fs : List (ℕ × Datum)) → Gathers l.dt l.time (reverse (entries_of l.rest)) l.entries r fs
    → Gathers l.dt l.left (reverse (entries_of l.samples)) l.initial.entries r fs

abbrev pub decreases-each : goal.decreases-each
decreases-each l = length l.rest
