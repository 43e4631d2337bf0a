use Rattle.std.proofs.Common.{length}
use Rattle.net_types.proofs.rewriting.+type_kept.Given as goal

abbrev pub decreases-type_kept : goal.decreases-type_kept
decreases-type_kept l = length l.path.now
