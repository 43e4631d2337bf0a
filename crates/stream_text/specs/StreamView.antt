-- What the code's samples and steps are as trees, lists and numbers.
use Rattle.std.specs.Prelude.{ℕ, List, Option, Some, None}
use Rattle.std.specs.Borrow.{Bor}
use Rattle.sample_core.specs.Datum.{Datum}
use Rattle.sample_core.specs.ValueView.{datum_of}
use Rattle.sample_core.specs.declared.sample.Sample.{Sample}

-- a step and the bytes behind it
abbrev pub step_view : Option (ℕ × Bor (List ℕ)) → Option (ℕ × List ℕ)
step_view None = None
step_view (Some s) = Some (s.0, s.1.now)

-- a step and the value behind it
abbrev pub sample_view : ℕ × Sample → ℕ × Datum
sample_view x = (x.0, datum_of x.1)

-- the value before, if there is one
abbrev pub before_view : Option (Bor Sample) → Option Datum
before_view None = None
before_view (Some v) = Some (datum_of v.now)

-- a line's own value, where it writes one, and else the value before
abbrev pub value_behind : Datum → Option Sample → Datum
value_behind before None = before
value_behind before (Some v) = datum_of v
