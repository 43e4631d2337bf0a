use Rattle.std.proofs.Common.{◌≡◌, ◌↔◌, drop, map}
use Rattle.sample_core.specs.TypeView.{type_of}
use Rattle.leaf_core.proofs.key.LeafKey.same.Given as goal

abbrev pub invariant-loop-i : goal.invariant-loop-i
invariant-loop-i l =
    (map type_of (drop l.i l.self-inside.params.items) ≡ map type_of (drop l.i l.other-inside.params.items))
    ↔ (map type_of l.self-inside.params.items ≡ map type_of l.other-inside.params.items)
