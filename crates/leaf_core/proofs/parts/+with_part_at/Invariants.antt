use Rattle.std.proofs.Common.{length}
use Rattle.leaf_core.proofs.parts.+with_part_at.Given as goal

abbrev pub decreases-with_part_at : goal.decreases-with_part_at
decreases-with_part_at l = length l.path.now
