use Rattle.std.proofs.Common.{◌≡◌, ◌++◌, map, take}
use Rattle.sample_core.specs.ValueView.{datum_of}
use Rattle.state_core.specs.RowsView.{rows_in}
use Rattle.state_core.specs.State.{unstarted, push_param}
use Rattle.state_core.specs.StateView.{frozen_of, scope_of}
use Rattle.step_core.proofs.choice.add_started.Given as goal

abbrev pub invariant-loop-value : goal.invariant-loop-value
invariant-loop-value g l = map frozen_of l.chosen.items ≡ map frozen_of l.fn.chosen.items
    ++ map (λ v. unstarted (rows_in l.net) (push_param (scope_of l.on.env.now) (datum_of v))) (take l.value-index l.started)
