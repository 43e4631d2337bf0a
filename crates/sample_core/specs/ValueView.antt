-- What the code's types and values are as trees.
use Rattle.sample_core.specs.Datum.{Datum, unit, bool, int, pair, no_event, event, list, list_of}
use Rattle.sample_core.specs.declared.sample.Sample.{Sample}
use Rattle.sample_core.specs.declared.sample.Sample.TheVariants as V

-- the value that a `Sample` is
abbrev pub datum_of : Sample → Datum
datum_of V.Unit = unit
datum_of (V.Bool b) = bool b
datum_of (V.Int n) = int n
datum_of (V.Pair p) = pair p.0 p.1
datum_of V.NoEvent = no_event
datum_of (V.Event a) = event a
datum_of (V.List vs) = list (list_of vs)
