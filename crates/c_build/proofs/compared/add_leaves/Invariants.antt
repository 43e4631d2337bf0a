use Rattle.std.proofs.Common.{◌≡◌, drop, map}
use Rattle.sample_core.specs.TypeView.{type_of}
use Rattle.c_file.specs.Compared.{with_leaves}
use Rattle.c_build.specs.Leaves.{leaf_in}
use Rattle.c_build.proofs.compared.add_leaves.Given as goal

-- the types so far, with those of the expressions to come, are all
abbrev pub invariant-loop-leaf : goal.invariant-loop-leaf
invariant-loop-leaf l =
    with_leaves (map type_of l.params) (map leaf_in (drop l.leaf-index l.leaves)) (map type_of l.all.items)
    ≡ with_leaves (map type_of l.params) (map leaf_in l.leaves) (map type_of l.initial.all.items)
