-- What the code's cells are.
use Rattle.sample_core.specs.Datum.{Datum}
use Rattle.sample_core.specs.ValueView.{datum_of}
use Rattle.sample_core.specs.declared.sample.Sample.{Sample}
use Rattle.cell_core.specs.Cell.{Cell, previous, latest, accumulating, ticking, summing}
use Rattle.cell_core.specs.Delays.{delay_of}
use Rattle.cell_core.specs.Parts.{recurring_of, after_of}
use Rattle.cell_core.specs.declared.cell.Cell as C
use Rattle.cell_core.specs.declared.cell.Cell.TheVariants as V
use Rattle.cell_core.specs.declared.step.Keeper.{Keeper}
use Rattle.cell_core.specs.declared.step.Keeper.TheVariants as K

-- the cell that a `Cell` is
abbrev pub cell_of : C.Cell → Cell
cell_of (V.IPre v) = previous (datum_of v)
cell_of (V.Delay f n) = delay_of f.value n.value
cell_of (V.Hold v) = latest (datum_of v)
cell_of (V.AccumBy acc) = accumulating (datum_of acc)
cell_of (V.After left c) = after_of left c
cell_of (V.Repeatedly left r) = recurring_of left r.value
cell_of (V.Time z) = ticking z
cell_of (V.Integral z before) = summing z before

-- the cell that keeps this value
abbrev pub kept_by : Keeper → Datum → Cell
kept_by K.IPre = previous
kept_by K.Hold = latest
kept_by K.AccumBy = accumulating

-- the cell and the answer that a start or a step gives
abbrev pub outcome_of : C.Cell × Sample → Cell × Datum
outcome_of r = (cell_of r.0, datum_of r.1)
