use Rattle.cell_core.proofs.CellStarts.{cell_start_law}
use Rattle.cell_core.proofs.KeptCells.{cell_step_law}
use Rattle.cell_core.proofs.laws.cell_laws.Goals as goal

pub returns-clause-start : goal.returns-clause-start
returns-clause-start c = cell_start_law

pub returns-clause-step : goal.returns-clause-step
returns-clause-step c = cell_step_law
