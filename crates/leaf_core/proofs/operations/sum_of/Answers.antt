use Rattle.std.proofs.Common.{w64, arith}
use Rattle.std.proofs.lemmas.Grind.{common_steps}
use Rattle.std.proofs.lemmas.Int.{wrapping_add_is, wrapping_sub_is}
use Rattle.leaf_core.proofs.operations.sum_of.Goals as goal

pub returns-in-Add : goal.returns-in-Add
returns-in-Add c =
    let e = wrapping_add_is w64 c.args.m c.args.n c.ranges.m c.ranges.n in
    grind (arith, common_steps, e)

pub returns-in-Sub : goal.returns-in-Sub
returns-in-Sub c =
    let e = wrapping_sub_is w64 c.args.m c.args.n c.ranges.m c.ranges.n in
    grind (arith, common_steps, e)
