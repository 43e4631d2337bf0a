use Rattle.std.proofs.Common.{ℕ, List, map, length}
use Rattle.leaf_table.specs.Rows.{rows_of}
use Rattle.net_syntax.specs.NeedView.{need_of}
use Rattle.state_core.specs.RowsView.{row_number}
use Rattle.step_core.specs.declared.fault.BindFault.{BindFault}
use Rattle.step_core.specs.Lookup.{AddsRows, Misses}
use Rattle.step_core.proofs.binding.add_rows.Given as goal

-- whatever the needs that are left add to the rows so far is what all needs add, and where one of
-- them has no row, it is the first of all
abbrev pub invariant-loop-need : goal.invariant-loop-need
invariant-loop-need g l =
    ((now : List ℕ) → AddsRows (rows_of l.table) (map need_of l.left) (map row_number l.rows.items) now
    → AddsRows (rows_of l.table) (map need_of l.needs) (map row_number l.initial.rows.items) now)
    × ((f : BindFault) → Misses (rows_of l.table) (map need_of l.left) f → Misses (rows_of l.table) (map need_of l.needs) f)

abbrev pub decreases-loop-need : goal.decreases-loop-need
decreases-loop-need g l = length l.left
