use Rattle.std.proofs.Common.{◌≡◌, take}
use Rattle.state_core.specs.StateView.{frozens_in}
use Rattle.state_core.proofs.env.copied.Given as goal

abbrev pub invariant-loop-frozen : goal.invariant-loop-frozen
invariant-loop-frozen l = frozens_in l.copies.items ≡ frozens_in (take l.frozen-index l.all)
