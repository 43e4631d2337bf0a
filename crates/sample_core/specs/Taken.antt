-- What stays where the elements of a list are taken out.
use Rattle.std.specs.Prelude.{◌≡◌, ◌⊎◌, List, []}
use Rattle.sample_core.specs.Datum.{Datum, list, list_of, end}

-- of the value v the elements vs were taken out and w stayed: all of a list, or none
abbrev pub IsTakenOut : Datum → List Datum → Datum → Type 0
IsTakenOut v vs w = (v ≡ list (list_of vs)) × (w ≡ list end) ⊎ (vs ≡ []) × (w ≡ v)
