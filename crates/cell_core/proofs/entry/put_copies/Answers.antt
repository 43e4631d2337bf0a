use Rattle.std.proofs.Common.{arith}
use Rattle.cell_core.proofs.Copies.{next_put}
use Rattle.cell_core.proofs.entry.put_copies.Goals as goal

pub loop-i-preserved : goal.loop-i-preserved
loop-i-preserved c =
    next_put c.loop-i.places c.args.from.now c.loop-i.i c.renew.new.self c.index-from-i.result c.index-from-i-in-loop-i.result
    (omega arith) c.loop-i-test.true c.in_ok-renew.ensures c.loop-i.invariant
