use Rattle.std.proofs.Common.{length}
use Rattle.net_view.proofs.possible.+steps_below.Given as goal

abbrev pub decreases-steps_below : goal.decreases-steps_below
decreases-steps_below l = length l.rest.now
