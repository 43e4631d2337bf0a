-- What a runner of the code is as a record of trees and lists.
use Rattle.leaf_table.specs.Rows.{rows_of}
use Rattle.step_core.specs.RunnerState.{RunnerState}
use Rattle.step_core.specs.StateOption.{state_in}
use Rattle.step_core.specs.declared.runner.Runner.{Runner}

-- the network, its table, its state, how many samples it got and what the last one visited
abbrev pub runner_state : {d : _} {f : _} {m : _} → Runner d f m → RunnerState
runner_state r =
    record {
      input = r.bound.now.input;
      keys = rows_of r.workspace.table.now;
      rows = r.bound.now.rows;
      state = state_in r.state;
      samples = r.samples;
      visits = r.visits;
    }
