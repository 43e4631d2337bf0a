use Rattle.std.proofs.Common.{arith}
use Rattle.std.proofs.lemmas.Grind.{common_steps}
use Rattle.code_fits.proofs.Folds.{code-next, placed}
use Rattle.code_fits.proofs.fitting.test_layouts.Goals as goal

pub loop-k-preserved : goal.loop-k-preserved
loop-k-preserved c = λ t. code-next c.args.types.now c.args.bounds.now c.args.functions.now c.args.layouts.now c.loop-k.k c.index-functions-k.result c.in_ok-layout.layout.now _ t
    (placed c.args.functions.now c.loop-k.k c.index-functions-k.result c.loop-k-test.true c.index-functions-k.is) c.in_ok-layout.ensures c.in_ok-function_fits.ensures
    (rw c.as_slice.ensures.value at c.in_ok-all_below.ensures) (c.loop-k.invariant t) (grind (arith, common_steps))
