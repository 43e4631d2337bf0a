use Rattle.leaf_core.proofs.SameParts.{same_part}
use Rattle.leaf_core.proofs.laws.part_laws.Goals as goal

pub returns : goal.returns
returns c = record { same = same_part }
