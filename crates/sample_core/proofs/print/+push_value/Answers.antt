use Rattle.std.proofs.Common.{arith}
use Rattle.std.proofs.lemmas.Grind.{common_steps}
use Rattle.sample_core.proofs.Adding.{extends_added}
use Rattle.sample_core.proofs.Elements.{element_smaller}
use Rattle.sample_core.proofs.print.+push_value.Goals as goal

pub push_list-push_next-requires : goal.push_list-push_next-requires
push_list-push_next-requires t c =
    let e = element_smaller c.as_slice-v-items.result.now c.loop-v.v-index c.v-item.result (omega arith) in
    grind (arith, common_steps, e)

pub push_value-returns-in_err-push_part-in-Pair : goal.push_value-returns-in_err-push_part-in-Pair
push_value-returns-in_err-push_part-in-Pair t c = grind (arith, common_steps, extends_added)

pub push_last-returns-in_err-push_part : goal.push_last-returns-in_err-push_part
push_last-returns-in_err-push_part t c = grind (arith, common_steps, extends_added)

pub push_list-returns-in_err-push_next : goal.push_list-returns-in_err-push_next
push_list-returns-in_err-push_next t c = grind (arith, common_steps, extends_added)
