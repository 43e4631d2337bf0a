use Rattle.code_fits.proofs.RuleTests.{if_ok, loop-ok}
use Rattle.code_fits.proofs.rules.loop_pre.Goals as goal

pub returns : goal.returns
returns c =
    if_ok _ (loop-ok c.args.around.types.now c.args.around.bounds.now c.args.around.earlier.now c.args.around.layout.now
    c.args.c.now c.args.f c.in_ok-v.v _ _ c.in_ok-v.ensures c.in_ok-leaf_at.ensures c.in_ok-goes.ensures c.in_ok-pairs.ensures c.in_ok-pairs-2.ensures) c.has.ensures
