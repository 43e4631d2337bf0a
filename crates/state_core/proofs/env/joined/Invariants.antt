use Rattle.std.proofs.Common.{◌≡◌, ◌++◌, take}
use Rattle.state_core.specs.StateView.{frozens_in}
use Rattle.state_core.proofs.env.joined.Given as goal

abbrev pub invariant-loop-frozen : goal.invariant-loop-frozen
invariant-loop-frozen l = frozens_in l.all.items ≡ frozens_in (l.old ++ take l.frozen-index l.more)
