use Rattle.std.proofs.Common.{◌≡◌, ◌+◌, ◌*◌, ◌↔◌, drop, map}
use Rattle.sample_core.specs.ValueView.{datum_of}
use Rattle.sample_core.specs.Datum.{list_of, datum_size, datums_size}
use Rattle.sample_core.proofs.equal.+same.Given as goal

-- the elements to come are equal exactly where all are
abbrev pub invariant-same_elements-loop-i : goal.invariant-same_elements-loop-i
invariant-same_elements-loop-i l = (list_of (map datum_of (drop l.i l.vs)) ≡ list_of (map datum_of (drop l.i l.xs)))
    ↔ (list_of (map datum_of l.vs) ≡ list_of (map datum_of l.xs))

abbrev pub decreases-same : goal.decreases-same
decreases-same l = 2 * datum_size (datum_of l.a.now)

abbrev pub decreases-same_elements : goal.decreases-same_elements
decreases-same_elements l = 2 * datums_size (list_of l.vs.now) + 1
