use Rattle.state_core.proofs.FrozenLists.{copies_grow}
use Rattle.state_core.proofs.env.copied.Goals as goal

pub loop-frozen-preserved : goal.loop-frozen-preserved
loop-frozen-preserved c =
    copies_grow c.args.all.now c.loop-frozen.frozen-index c.loop-frozen.copies.items c.push.new.self.items c.frozen-item.result c.in_ok-frozen.frozen
    c.loop-frozen-test.true c.frozen-item.is c.loop-frozen.invariant c.in_ok-frozen.ensures c.in_ok-push.ensures.items
