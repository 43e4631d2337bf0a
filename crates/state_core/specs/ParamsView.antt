-- What the code's parameters are as a list.
use Rattle.std.specs.Prelude.{List, [], Option, Some, None, map}
use Rattle.std.proofs.Common.{Vec, Global}
use Rattle.std.specs.declared.rc.Rc.{Rc}
use Rattle.sample_core.specs.Datum.{Datum}
use Rattle.sample_core.specs.ValueView.{datum_of}
use Rattle.sample_core.specs.declared.sample.Sample.{Sample}

-- the values of some parameters
abbrev pub values_in : Option (Rc (Vec Sample Global) Global) → List Datum
values_in (Some all) = map datum_of all.value.items
values_in None = []
