use Rattle.std.proofs.Common.{drop, map}
use Rattle.code_fits.specs.Rules.{AllGo}
use Rattle.code_fits.specs.Tables.{layout_of, tree_at, trees_at}
use Rattle.code_fits.proofs.around.all_go.Given as goal

-- where those to come do, all do
abbrev pub invariant-loop-f : goal.invariant-loop-f
invariant-loop-f l =
    AllGo (map (layout_of l.around.types.now) l.around.earlier.now)
    (trees_at l.around.types.now l.around.layout.now.params.items) l.around.layout.now.olds.items
    (tree_at l.around.types.now l.a) (tree_at l.around.types.now l.b) (drop l.f-index l.fs)
    → AllGo (map (layout_of l.around.types.now) l.around.earlier.now)
    (trees_at l.around.types.now l.around.layout.now.params.items) l.around.layout.now.olds.items
    (tree_at l.around.types.now l.a) (tree_at l.around.types.now l.b) l.fs
