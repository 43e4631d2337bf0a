use Rattle.std.proofs.Common.{◌≡◌, map, take}
use Rattle.state_core.specs.RowsView.{rows_in}
use Rattle.state_core.specs.State.{unstarted}
use Rattle.state_core.specs.StateView.{frozen_of, scope_of}
use Rattle.step_core.proofs.choice.first_members.Given as goal

abbrev pub invariant-loop-net : goal.invariant-loop-net
invariant-loop-net g l = map frozen_of l.all.items ≡ map (λ n. unstarted (rows_in n) (scope_of l.on.env.now)) (take l.net-index l.first)
