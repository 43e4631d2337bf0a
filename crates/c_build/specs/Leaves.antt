-- What the expressions of a function are.
use Rattle.sample_core.specs.TypeView.{type_of}
use Rattle.c_file.specs.Compared.{Leaf, constant, at_input}
use Rattle.c_build.specs.declared.leaves.Leaf as V
use Rattle.c_build.specs.declared.leaves.Leaf.TheVariants as L

-- the expression that a `Leaf` is
abbrev pub leaf_in : V.Leaf → Leaf
leaf_in (L.Constant e) = constant e.now
leaf_in (L.AtInput A e) = at_input (type_of A) e.now
