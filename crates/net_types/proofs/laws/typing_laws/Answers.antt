use Rattle.net_types.proofs.Checks.{walk_exact, check_exact}
use Rattle.net_types.proofs.Sizes.{size_law}
use Rattle.net_types.proofs.FaultsSited.{faults_sited}
use Rattle.net_types.proofs.laws.typing_laws.Goals as goal

pub returns-clause-walk : goal.returns-clause-walk
returns-clause-walk c = walk_exact

pub returns-clause-check : goal.returns-clause-check
returns-clause-check c = check_exact

pub returns-clause-faults : goal.returns-clause-faults
returns-clause-faults c = faults_sited

pub returns-clause-sizes : goal.returns-clause-sizes
returns-clause-sizes c = size_law
