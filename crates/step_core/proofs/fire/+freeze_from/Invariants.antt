use Rattle.std.proofs.Common.{length}
use Rattle.step_core.proofs.fire.+freeze_from.Given as goal

abbrev pub decreases-freeze_from : goal.decreases-freeze_from
decreases-freeze_from g l = length l.members.now
