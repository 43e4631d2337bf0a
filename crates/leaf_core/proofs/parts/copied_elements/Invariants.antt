use Rattle.std.proofs.Common.{◌≡◌, take}
use Rattle.leaf_core.proofs.parts.copied_elements.Given as goal

abbrev pub invariant-loop-element : goal.invariant-loop-element
invariant-loop-element l = l.copied.items ≡ take l.element-index l.elements
