use Rattle.std.proofs.Common.{◌≡◌, ◌++◌, drop, map}
use Rattle.sample_core.specs.TypeView.{type_of}
use Rattle.c_text.specs.Meant.{type_meant}
use Rattle.c_leaf.specs.Representing.{c_type}
use Rattle.c_file.specs.Compared.{number_among}
use Rattle.c_file.specs.FunctionC.{leaf_c}
use Rattle.c_build.specs.Leaves.{leaf_in}
use Rattle.c_build.specs.LeafLines.{IsTyped}
use Rattle.c_build.specs.Scopes.{table}
use Rattle.c_build.specs.Frames.{bounds_in}
use Rattle.c_build.specs.Functions.{functions_in}
use Rattle.c_build.proofs.functions.push_each_leaf.Given as goal

-- those there, with those of the expressions to come, are all
abbrev pub invariant-loop-leaf : goal.invariant-loop-leaf
invariant-loop-leaf l =
    IsTyped l.frame
    → map (type_meant (table l.frame.scope)) l.frame.scope.params.now
    ≡ map (c_type (bounds_in l.frame)) (map type_of l.params)
    → functions_in l.frame l.functions.items
    ++ map (leaf_c (bounds_in l.frame) (number_among (map type_of l.compared)) (map type_of l.params))
    (map leaf_in (drop l.leaf-index l.leaves))
    ≡ functions_in l.frame l.initial.functions.items
    ++ map (leaf_c (bounds_in l.frame) (number_among (map type_of l.compared)) (map type_of l.params))
    (map leaf_in l.leaves)
