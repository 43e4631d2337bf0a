use Rattle.std.proofs.Common.{length}
use Rattle.net_syntax.proofs.replacing.+replaced_below.Given as goal

abbrev pub decreases-replaced_below : goal.decreases-replaced_below
decreases-replaced_below l = length l.path.now
