-- What a cell's start and steps answer: its form's formula.
use Rattle.std.specs.Prelude.{◌≡◌, ℕ, [], ◌∷◌, ◌++◌}
use Rattle.sample_core.specs.Datum.{Datum, event, pair}
use Rattle.net_meaning.specs.SignalFunction.{TimedList, values, i_pre_value, delay_value, latest_event, accum_by_value, after_value, repeatedly_value, time_value, integral_value}
use Rattle.cell_core.specs.Cell.{Cell, accumulating, cell_step, Keeps}
use Rattle.cell_core.specs.Start.{IsWithin, cell_start}
use Rattle.cell_core.specs.declared.form.Form.{Form}
use Rattle.cell_core.specs.declared.form.Form.TheVariants as F

-- what a form answers after some samples, from its constant's value and what its leaf gives
abbrev pub formula_of : Form → Datum → (Datum → Datum) → TimedList → Datum
formula_of F.IPre c g = i_pre_value c
formula_of (F.Delay q) c g = delay_value q c
formula_of F.Hold c g = λ p. latest_event c (values p)
formula_of F.AccumBy c g = accum_by_value g c
formula_of (F.After q) c g = after_value q c
formula_of (F.Repeatedly q) c g = repeatedly_value q c
formula_of F.Time c g = time_value
formula_of F.Integral c g = integral_value

-- in place of an event v, the event of what g gives at the pair of the accumulator and v
abbrev pub put_in : (Datum → Datum) → Datum → Datum → Datum
put_in g acc (event v) = event (g (pair acc v))
put_in g acc a = a

-- what a form is handed at its first sample
abbrev pub handed_first : Form → Datum → (Datum → Datum) → Datum → Datum
handed_first F.AccumBy c g a = put_in g c a
handed_first form c g a = a

-- what a cell is handed at a further sample
abbrev pub handed_next : Cell → (Datum → Datum) → Datum → Datum
handed_next (accumulating acc) g a = put_in g acc a
handed_next k g a = a

-- the cell keeps what h needs of y and p, and the answer is h's there
abbrev pub IsRight : (Datum → Datum) → (TimedList → Datum) → ℕ × Datum → TimedList → Cell × Datum
    → Type 0
IsRight g h y p r = Keeps g r.0 h y p × (r.1 ≡ h (y ∷ p))

-- a start is right for its form's formula
abbrev pub CellStartLaw : Type 0
CellStartLaw = (form : Form) (c : Datum) (g : Datum → Datum) (y : ℕ × Datum) → IsWithin form
    → IsRight g (formula_of form c g) y [] (cell_start form c (handed_first form c g y.1))

-- a step of a cell that is right is right with one sample more
abbrev pub CellStepLaw : Type 0
CellStepLaw = (g : Datum → Datum) (k : Cell) (h : TimedList → Datum) (y : ℕ × Datum) (p : TimedList)
    (x : ℕ × Datum) → Keeps g k h y p
    → IsRight g h y (p ++ x ∷ []) (cell_step k (x.0, handed_next k g x.1))
