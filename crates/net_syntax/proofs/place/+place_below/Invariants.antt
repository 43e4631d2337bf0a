use Rattle.std.proofs.Common.{length}
use Rattle.net_syntax.proofs.place.+place_below.Given as goal

abbrev pub decreases-place_below : goal.decreases-place_below
decreases-place_below l = length l.path.now
