use Rattle.std.proofs.Common.{length}
use Rattle.net_syntax.proofs.standing.+type_below.Given as goal

abbrev pub decreases-type_below : goal.decreases-type_below
decreases-type_below l = length l.path.now
