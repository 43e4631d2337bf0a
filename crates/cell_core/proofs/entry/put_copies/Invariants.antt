use Rattle.std.proofs.Common.{◌≡◌, take}
use Rattle.cell_core.specs.Entries.{entries_of}
use Rattle.cell_core.proofs.entry.put_copies.Given as goal

-- those so far are copies
abbrev pub invariant-loop-i : goal.invariant-loop-i
invariant-loop-i l = take l.i (entries_of l.places) ≡ take l.i (entries_of l.from)
