-- How the forms start.
use Rattle.std.specs.Prelude.{◌≤◌, pos, [], ◌∷◌}
use Rattle.sample_core.specs.Datum.{Datum, int, no_event, int_of}
use Rattle.net_meaning.specs.SignalFunction.{latest_event, if_event}
use Rattle.cell_core.specs.Cell.{Cell, previous, queue, latest, accumulating, recurring, ticking, summing, after_cell}
use Rattle.cell_core.specs.declared.form.Form.{Form}
use Rattle.cell_core.specs.declared.form.Form.TheVariants as F

-- the q of a `delay` or a `repeatedly` is at least 1
abbrev pub IsWithin : Form → Type 0
IsWithin (F.Delay q) = 1 ≤ q
IsWithin (F.Repeatedly q) = 1 ≤ q
IsWithin F.IPre = Unit {0}
IsWithin F.Hold = Unit {0}
IsWithin F.AccumBy = Unit {0}
IsWithin (F.After q) = Unit {0}
IsWithin F.Time = Unit {0}
IsWithin F.Integral = Unit {0}

-- a form's cell after its first sample, and its answer, from its constant's value and the sample
abbrev pub cell_start : Form → Datum → Datum → Cell × Datum
cell_start F.IPre c x = (previous x, c)
cell_start (F.Delay q) c x = (queue q c ((q, x) ∷ []), c)
cell_start F.Hold c x = (latest (latest_event c (x ∷ [])), latest_event c (x ∷ []))
cell_start F.AccumBy c x =
    (accumulating (latest_event c (x ∷ [])), if_event x (latest_event c (x ∷ [])))
cell_start (F.After q) c x = after_cell q c
cell_start (F.Repeatedly q) c x = (recurring q q c, no_event)
cell_start F.Time c x = (ticking (pos 0), int (pos 0))
cell_start F.Integral c x = (summing (pos 0) (int_of x), int (pos 0))
