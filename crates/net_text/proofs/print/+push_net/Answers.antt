use Rattle.std.proofs.Common.{arith}
use Rattle.std.proofs.lemmas.Grind.{common_steps}
use Rattle.net_text.proofs.PrintSteps.{member_falls}
use Rattle.net_text.proofs.print.+push_net.Goals as goal

pub push_members-push_next-requires : goal.push_members-push_next-requires
push_members-push_next-requires t c =
    let e = member_falls c.as_slice-net-items.result.now c.loop-net.net-index c.net-item.result (omega arith) in
    grind (arith, common_steps, e)

pub push_net-returns-in-Repeatedly : goal.push_net-returns-in-Repeatedly
push_net-returns-in-Repeatedly t c = rw c.in-Repeatedly.is c.push_timer-in-Repeatedly.ensures
