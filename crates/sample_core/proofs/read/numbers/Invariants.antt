use Rattle.std.proofs.Common.{◌≡◌, ◌+◌, ◌-◌, ◌≤◌, length, map}
use Rattle.sample_core.specs.Reading.{elements_at, value_at}
use Rattle.sample_core.specs.TypeTree.{int_ty}
use Rattle.sample_core.specs.ValueView.{datum_of}
use Rattle.sample_core.proofs.ReadSteps.{with_front}
use Rattle.sample_core.proofs.read.numbers.Given as goal

-- the numbers so far, and those that the rest gives, are all; each took a byte at least
abbrev pub invariant-loop-element : goal.invariant-loop-element
invariant-loop-element l =
    (with_front (map datum_of l.all.items) (elements_at (value_at l.size int_ty) (length l.text - length l.all.items) l.rest)
    ≡ elements_at (value_at l.size int_ty) (length l.text) l.text) × (length l.rest + length l.all.items ≤ length l.text)

abbrev pub decreases-loop-element : goal.decreases-loop-element
decreases-loop-element l = length l.rest
