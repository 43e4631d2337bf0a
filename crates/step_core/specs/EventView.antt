-- What the code finds of events in values.
use Rattle.std.proofs.Common.{Option, Some, None, Bor}
use Rattle.sample_core.specs.Datum.{Datum}
use Rattle.sample_core.specs.ValueView.{datum_of}
use Rattle.sample_core.specs.declared.sample.Sample.{Sample}

-- what an event was found to carry, if there is one
abbrev pub event_found : Option (Bor Sample) → Option Datum
event_found (Some v) = Some (datum_of v.now)
event_found None = None

-- the sample and what the event carries, if they were found
abbrev pub restart_found : Option (Bor Sample × Bor Sample) → Option (Datum × Datum)
restart_found (Some p) = Some (datum_of p.0.now, datum_of p.1.now)
restart_found None = None
