use Rattle.std.proofs.Common.{◌≡◌, ◌+◌, ◌-◌, ◌*◌, ◌≤◌, length, map}
use Rattle.sample_core.specs.Reading.{elements_at, value_at}
use Rattle.sample_core.specs.ValueView.{datum_of}
use Rattle.sample_core.specs.TypeView.{type_of}
use Rattle.sample_core.specs.TypeTree.{nodes_of}
use Rattle.sample_core.proofs.ReadSteps.{with_front}
use Rattle.sample_core.proofs.read.+value.Given as goal

-- the elements so far, and those that the rest gives, are all; each took a byte at least
abbrev pub invariant-elements-loop-element : goal.invariant-elements-loop-element
invariant-elements-loop-element l =
    (with_front (map datum_of l.all.items) (elements_at (value_at l.size (type_of l.ty)) (length l.text - length l.all.items) l.rest)
    ≡ elements_at (value_at l.size (type_of l.ty)) (length l.text) l.text) × (length l.rest + length l.all.items ≤ length l.text)

abbrev pub decreases-elements-loop-element : goal.decreases-elements-loop-element
decreases-elements-loop-element l = length l.rest

abbrev pub decreases-value : goal.decreases-value
decreases-value l = 8 * nodes_of (type_of l.ty.now)

abbrev pub decreases-part : goal.decreases-part
decreases-part l = 8 * nodes_of l.ty.now + 1

abbrev pub decreases-elements : goal.decreases-elements
decreases-elements l = 8 * nodes_of (type_of l.ty.now) + 1

abbrev pub decreases-both : goal.decreases-both
decreases-both l = 8 * (nodes_of l.a.now + nodes_of l.b.now) + 2

abbrev pub decreases-carried : goal.decreases-carried
decreases-carried l = 8 * nodes_of l.ty.now + 2

abbrev pub decreases-items : goal.decreases-items
decreases-items l = 8 * nodes_of l.ty.now + 2

abbrev pub decreases-new_pair : goal.decreases-new_pair
decreases-new_pair l = 8 * (nodes_of l.a.now + nodes_of l.b.now) + 3

abbrev pub decreases-new_event : goal.decreases-new_event
decreases-new_event l = 8 * nodes_of l.ty.now + 3

abbrev pub decreases-new_list : goal.decreases-new_list
decreases-new_list l = 8 * nodes_of l.ty.now + 3

abbrev pub decreases-pair : goal.decreases-pair
decreases-pair l = 8 * (nodes_of l.a.now + nodes_of l.b.now) + 4

abbrev pub decreases-event : goal.decreases-event
decreases-event l = 8 * nodes_of l.ty.now + 4

abbrev pub decreases-list : goal.decreases-list
decreases-list l = 8 * nodes_of l.ty.now + 4
