use Rattle.std.proofs.Common.{◌≡◌, map, take}
use Rattle.state_core.specs.StateView.{frozen_of}
use Rattle.state_core.proofs.Choices.{named_by}
use Rattle.state_core.proofs.choosing.select.Given as goal

abbrev pub invariant-loop-number : goal.invariant-loop-number
invariant-loop-number l = map frozen_of l.chosen.items ≡ take 64 (named_by l.all l.number-items l.number-index)
