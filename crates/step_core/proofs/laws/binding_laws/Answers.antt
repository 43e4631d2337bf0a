use Rattle.step_core.proofs.GrownTables.{grown_table}
use Rattle.step_core.proofs.laws.binding_laws.Goals as goal

pub returns : goal.returns
returns c = record { grown = grown_table }
