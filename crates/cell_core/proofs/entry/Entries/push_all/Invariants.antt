use Rattle.std.proofs.Common.{◌≡◌, ◌++◌, take}
use Rattle.cell_core.specs.Entries.{entries_of}
use Rattle.cell_core.proofs.entry.Entries.push_all.Given as goal

-- those so far are copies
abbrev pub invariant-loop-entry : goal.invariant-loop-entry
invariant-loop-entry l = l.self ≡ l.initial.self ++ take l.entry-index (entries_of l.from)
