-- What waits in a delay as a list.
use Rattle.std.specs.Prelude.{ℕ, List, map}
use Rattle.sample_core.specs.Datum.{Datum}
use Rattle.sample_core.specs.ValueView.{datum_of}
use Rattle.cell_core.specs.declared.entry.Entry.{Entry}

-- the time of an entry, and its value
abbrev pub entry_of : Entry → ℕ × Datum
entry_of e = (e.time, datum_of e.value)

-- the times of entries, and their values
abbrev pub entries_of : List Entry → List (ℕ × Datum)
entries_of = map entry_of
