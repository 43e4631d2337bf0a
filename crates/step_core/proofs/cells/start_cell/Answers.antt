use Rattle.step_core.proofs.RunCells.{start_runs}
use Rattle.step_core.proofs.RunJoins.{if_ok}
use Rattle.step_core.proofs.cells.start_cell.Goals as goal

pub returns : goal.returns
returns g c = if_ok c.start.result _ _ (λ r e net s i es. start_runs _ _ _ _ _ _ _ c.in_ok-value.ensures e net s i es) c.start.ensures
