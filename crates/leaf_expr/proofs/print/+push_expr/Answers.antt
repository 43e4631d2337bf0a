use Rattle.std.proofs.Common.{arith}
use Rattle.std.proofs.lemmas.Grind.{common_steps}
use Rattle.leaf_core.proofs.Places.{element_falls}
use Rattle.leaf_expr.proofs.print.+push_expr.Goals as goal

pub push_elements-push_next_expr-requires : goal.push_elements-push_next_expr-requires
push_elements-push_next_expr-requires t c =
    let e = element_falls c.as_slice-e-items.result.now c.loop-e.e-index c.e-item.result (omega arith) in
    grind (arith, common_steps, e)
