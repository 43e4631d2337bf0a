use Rattle.std.proofs.Common.{◌≡◌, true, false, sym, ◌∙◌}
use Rattle.sample_core.specs.TypeView.{type_of}
use Rattle.leaf_core.specs.TypeLimits.{same_tree}
use Rattle.leaf_core.proofs.Exactness.{as_same_tree}
use Rattle.code_fits.proofs.Folds.{found-here, found-after}
use Rattle.code_fits.proofs.around.most_of.Goals as goal

pub returns-then-same_type : goal.returns-then-same_type
returns-then-same_type c =
    let e : same_tree (type_of c.index-known-i.result) (type_of c.args.list.now) ≡ true = sym (as_same_tree _ _ _ c.same_type.ensures) ∙ c.if-same_type.true in
    sym (c.loop-i.invariant ∙ found-here (type_of c.args.list.now) c.args.known.now c.args.bounds.now c.loop-i.i c.index-known-i.result c.in_ok-most.most c.loop-i-test.true c.index-known-i.is c.in_ok-most.ensures e)

pub loop-i-preserved : goal.loop-i-preserved
loop-i-preserved c =
    let e : same_tree (type_of c.index-known-i.result) (type_of c.args.list.now) ≡ false = sym (as_same_tree _ _ _ c.same_type.ensures) ∙ c.if-same_type.false in
    c.loop-i.invariant ∙ found-after (type_of c.args.list.now) c.args.known.now c.args.bounds.now c.loop-i.i c.index-known-i.result c.in_ok-most.most c.loop-i-test.true c.index-known-i.is c.in_ok-most.ensures e
