use Rattle.std.proofs.Common.{ap, sym, add-one, refl, ◌+◌}
use Rattle.sample_core.specs.ValueView.{datum_of}
use Rattle.leaf_table.specs.Rows.{rows_of}
use Rattle.step_core.specs.RunnerState.{Pushes}
use Rattle.step_core.specs.RunnerView.{runner_state}
use Rattle.step_core.specs.StateOption.{state_in}
use Rattle.step_core.proofs.Pushing.{past_later, pushed_as, pushed_from}
use Rattle.step_core.proofs.runner.Runner.push.Goals.{After-keep}
use Rattle.step_core.proofs.runner.Runner.push.Goals as goal

-- the next output, whether or not this is the first sample
after_push : (g : _) (c : After-keep g) → Pushes (runner_state c.args.self.now) (c.args.step, datum_of c.args.sample.now)
    (datum_of c.in_ok-visits.answer)
    (record {
      input = c.args.self.now.bound.now.input;
      keys = rows_of c.args.self.now.workspace.table.now;
      rows = c.args.self.now.bound.now.rows;
      state = state_in c.keep.new.state;
      samples = c.args.self.now.samples + 1;
      visits = c.in_ok-visits.visits;
    })
after_push g c =
    pushed_as (runner_state c.args.self.now) _ _ _ _ _ _ _ _ c.keep.ensures (add-one c.args.self.now.samples) refl refl
    (pushed_from (runner_state c.args.self.now) _ _ _ _ _ _ c.as_ref-state.result (ap state_in (sym c.as_ref-state.ensures.value)) c.requires.typed
    c.net-net.ensures c.nothing-env.ensures c.in_ok-visits.ensures)

pub returns-clause-pushed : goal.returns-clause-pushed
returns-clause-pushed g c = after_push g (goal.at.returns-clause-pushed g c).After-keep

pub invariant_of-self-2 : goal.invariant_of-self-2
invariant_of-self-2 g c = record { past = past_later (runner_state c.args.self.now) _ _ _ c.args.self.now.past (after_push g c) }
