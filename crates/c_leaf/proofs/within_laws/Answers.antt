use Rattle.c_leaf.proofs.Within.{within_law, offered_law, values_offered_law}
use Rattle.c_leaf.proofs.within_laws.Goals as goal

pub returns-clause-within : goal.returns-clause-within
returns-clause-within c = within_law

pub returns-clause-offered : goal.returns-clause-offered
returns-clause-offered c = offered_law

pub returns-clause-values : goal.returns-clause-values
returns-clause-values c = values_offered_law
