use Rattle.std.proofs.Common.{arith}
use Rattle.std.proofs.lemmas.Grind.{common_steps}
use Rattle.net_text.proofs.PrintSteps.{member_falls}
use Rattle.net_text.proofs.new_forms.+is_new.Goals as goal

pub are_new-is_new-requires : goal.are_new-is_new-requires
are_new-is_new-requires t c =
    let e = member_falls c.as_slice-net-items.result.now c.loop-net.net-index c.net-item.result (omega arith) in
    grind (arith, common_steps, e)
