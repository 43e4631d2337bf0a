use Rattle.std.proofs.Common.{length}
use Rattle.leaf_core.proofs.part_types.+part_type.Given as goal

abbrev pub decreases-part_type : goal.decreases-part_type
decreases-part_type l = length l.path.now
