use Rattle.std.proofs.Common.{length}
use Rattle.c_build.proofs.collection.+push_cases.Given as goal

abbrev pub decreases-push_cases : goal.decreases-push_cases
decreases-push_cases l = length l.members.now
