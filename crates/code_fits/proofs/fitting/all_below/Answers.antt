use Rattle.std.proofs.Common.{arith}
use Rattle.net_code.specs.Running.{AllBelow}
use Rattle.code_fits.proofs.Folds.{below-next, ended}
use Rattle.code_fits.proofs.fitting.all_below.Goals as goal

pub loop-number-preserved : goal.loop-number-preserved
loop-number-preserved c = below-next c.args.k c.args.numbers.now c.loop-number.number-index 0 c.loop-number-test.true (omega arith) c.loop-number.invariant

pub returns : goal.returns
returns c = ended (AllBelow c.args.k) c.args.numbers.now c.loop-number.number-index (omega arith) tt c.loop-number.invariant
