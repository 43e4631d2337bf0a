-- What a value ends as, once a part that it lent is written.
use Rattle.std.specs.Prelude.{Option}
use Rattle.std.specs.Borrow.{LendsIf, MutBor, Fml}
use Rattle.sample_core.specs.Datum.{Datum}
use Rattle.sample_core.specs.ValueView.{datum_of}
use Rattle.sample_core.specs.declared.sample.Sample.{Sample}
use Rattle.sample_core.specs.contracts.sample.Sample.{the_row as sample_row}
use Rattle.sample_core.specs.contracts.sample.SampleChild.{the_row as child_row}
use Rattle.sample_core.specs.contracts.sample.SamplePair.{the_row as pair_row}

-- the pair s ends with the last value behind r as its first part
abbrev pub LendsFirst : MutBor (Datum × Datum) → Option (MutBor Sample) → Fml
LendsFirst s r = LendsIf pair_row sample_row s r (λ w. (datum_of w, s.now.1)) s.now

-- the pair s ends with the last value behind r as its second part
abbrev pub LendsSecond : MutBor (Datum × Datum) → Option (MutBor Sample) → Fml
LendsSecond s r = LendsIf pair_row sample_row s r (λ w. (s.now.0, datum_of w)) s.now

-- the part s of a value ends as the last value behind r
abbrev pub LendsChild : MutBor Datum → Option (MutBor Sample) → Fml
LendsChild s r = LendsIf child_row sample_row s r datum_of s.now
