use Rattle.std.proofs.Common.{◌≡◌, ◌++◌, string_bytes, drop}
use Rattle.sample_core.specs.Adding.{Extends}
use Rattle.net_tree.specs.Position.{child_numbers}
use Rattle.net_tree.proofs.position.push_position.Given as goal

-- the text begins as it did, and what stands there and the child numbers to come is the whole
abbrev pub invariant-loop-child : goal.invariant-loop-child
invariant-loop-child l =
    Extends (string_bytes l.initial.text) (string_bytes l.text)
    × (string_bytes l.text ++ child_numbers (drop l.child-index l.child-items) ≡ string_bytes l.initial.text ++ child_numbers l.child-items)
