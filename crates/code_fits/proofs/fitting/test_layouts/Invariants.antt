use Rattle.std.proofs.Common.{[], drop, map, take}
use Rattle.code_fits.specs.Rules.{CodeFits}
use Rattle.code_fits.specs.Tables.{TableHolds, bound_of, layout_of}
use Rattle.code_fits.proofs.fitting.test_layouts.Given as goal

-- where those to come fit, all do
abbrev pub invariant-loop-k : goal.invariant-loop-k
invariant-loop-k l =
    TableHolds l.types
    → CodeFits (bound_of l.types l.bounds) (map (layout_of l.types) (take l.k l.layouts)) (drop l.k l.functions)
    (map (layout_of l.types) (drop l.k l.layouts))
    → CodeFits (bound_of l.types l.bounds) [] l.functions (map (layout_of l.types) l.layouts)
