use Rattle.std.proofs.Common.{◌≡◌, [], drop, map}
use Rattle.sample_core.specs.TypeView.{type_of}
use Rattle.code_fits.specs.Tables.{layout_of}
use Rattle.c_file.specs.Compared.{with_functions}
use Rattle.c_build.proofs.compared.compared.Given as goal

-- the types so far, with those of the functions to come, are all
abbrev pub invariant-loop-k : goal.invariant-loop-k
invariant-loop-k l =
    with_functions (drop l.k l.program.functions.items)
    (map (layout_of l.program.types) (drop l.k l.program.layouts.items)) (map type_of l.all.items)
    ≡ with_functions l.program.functions.items (map (layout_of l.program.types) l.program.layouts.items) []
