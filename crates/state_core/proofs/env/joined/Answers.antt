use Rattle.state_core.proofs.FrozenLists.{copies_grow_behind}
use Rattle.state_core.proofs.env.joined.Goals as goal

pub loop-frozen-preserved : goal.loop-frozen-preserved
loop-frozen-preserved c =
    copies_grow_behind c.args.old.now c.args.more.now c.loop-frozen.frozen-index c.loop-frozen.all.items c.push.new.self.items c.frozen-item.result
    c.in_ok-frozen.frozen
    c.loop-frozen-test.true c.frozen-item.is c.loop-frozen.invariant c.in_ok-frozen.ensures c.in_ok-push.ensures.items
