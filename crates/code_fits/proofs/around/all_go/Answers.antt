use Rattle.std.proofs.Common.{map, arith}
use Rattle.code_fits.specs.Rules.{AllGo, none_go}
use Rattle.code_fits.specs.Tables.{layout_of, tree_at, trees_at}
use Rattle.code_fits.proofs.Folds.{go-next, ended}
use Rattle.code_fits.proofs.around.all_go.Goals as goal

pub loop-f-preserved : goal.loop-f-preserved
loop-f-preserved c =
    go-next (map (layout_of c.args.around.types.now) c.args.around.earlier.now) (trees_at c.args.around.types.now c.args.around.layout.now.params.items)
    c.args.around.layout.now.olds.items (tree_at c.args.around.types.now c.args.a) (tree_at c.args.around.types.now c.args.b) c.args.fs.now c.loop-f.f-index _
    (omega arith) c.in_ok-goes.ensures c.loop-f.invariant

pub returns : goal.returns
returns c =
    ended
    (AllGo (map (layout_of c.args.around.types.now) c.args.around.earlier.now) (trees_at c.args.around.types.now c.args.around.layout.now.params.items)
    c.args.around.layout.now.olds.items (tree_at c.args.around.types.now c.args.a) (tree_at c.args.around.types.now c.args.b))
    c.args.fs.now c.loop-f.f-index (omega arith) none_go c.loop-f.invariant
