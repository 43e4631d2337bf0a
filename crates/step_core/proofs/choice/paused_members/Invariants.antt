use Rattle.std.proofs.Common.{◌≡◌, map, take}
use Rattle.state_core.specs.State.{paused}
use Rattle.state_core.specs.StateView.{frozen_of, state_of}
use Rattle.step_core.proofs.choice.paused_members.Given as goal

abbrev pub invariant-loop-state : goal.invariant-loop-state
invariant-loop-state l = map frozen_of l.all.items ≡ map (λ a. paused (state_of a) l.step) (take l.state-index l.states)
