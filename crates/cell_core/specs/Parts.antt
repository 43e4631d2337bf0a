-- The cells that the code's parts are.
use Rattle.std.specs.Prelude.{ℕ, nat_le, if◌then◌else◌}
use Rattle.sample_core.specs.Datum.{Datum}
use Rattle.cell_core.specs.Cell.{Cell, recurring, waiting, over}
use Rattle.cell_core.specs.declared.recurring.Recurring.{Recurring}

-- the cell that a `Recurring` is to whose next multiple so much time is left
abbrev pub recurring_of : ℕ → Recurring → Cell
recurring_of left r = recurring r.q left r.value

-- the cell that an `after` is to whose event so much time is left, 0 once it is past
abbrev pub after_of : ℕ → Datum → Cell
after_of left c = if nat_le left 0 then over else waiting left c
