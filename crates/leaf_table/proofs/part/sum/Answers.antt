use Rattle.std.proofs.Common.{w64}
use Rattle.std.proofs.lemmas.Int.{wrapping_add_is}
use Rattle.leaf_table.proofs.part.sum.Goals as goal

pub returns : goal.returns
returns c = wrapping_add_is w64 c.args.m c.args.n c.ranges.m c.ranges.n
