use Rattle.std.proofs.Common.{length}
use Rattle.c_build.proofs.collection.+push_origins.Given as goal

abbrev pub decreases-push_origins : goal.decreases-push_origins
decreases-push_origins l = length l.members.now
