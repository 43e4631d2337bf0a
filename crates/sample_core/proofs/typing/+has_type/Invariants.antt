use Rattle.std.proofs.Common.{◌↔◌, drop, map}
use Rattle.sample_core.specs.ValueView.{datum_of}
use Rattle.sample_core.specs.Datum.{list_of}
use Rattle.sample_core.specs.HasType.{HaveType}
use Rattle.sample_core.proofs.typing.+has_type.Given as goal

-- the elements to come are of the type exactly where all are
abbrev pub invariant-have_type-loop-v : goal.invariant-have_type-loop-v
invariant-have_type-loop-v l = HaveType (list_of (map datum_of (drop l.v-index l.v-items))) l.a ↔ HaveType (list_of (map datum_of l.v-items)) l.a
