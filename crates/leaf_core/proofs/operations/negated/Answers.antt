use Rattle.std.proofs.Common.{w64, arith}
use Rattle.std.proofs.lemmas.Grind.{common_steps}
use Rattle.std.proofs.lemmas.Int.{wrapping_neg_is}
use Rattle.leaf_core.proofs.operations.negated.Goals as goal

pub returns : goal.returns
returns c =
    let e = wrapping_neg_is w64 c.args.n c.ranges.n in let f = c.wrapping_neg.ensures in
    grind (arith, common_steps, e)
