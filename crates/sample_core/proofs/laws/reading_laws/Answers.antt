use Rattle.sample_core.proofs.ReadingIs.{reading_law, one_value_law, read_again_law}
use Rattle.sample_core.proofs.FaultIs.{fault_law, no_value_law}
use Rattle.sample_core.proofs.Leftmost.{leftmost_law}
use Rattle.sample_core.proofs.laws.reading_laws.Goals as goal

pub returns-clause-found : goal.returns-clause-found
returns-clause-found c = reading_law

pub returns-clause-one : goal.returns-clause-one
returns-clause-one c = one_value_law

pub returns-clause-again : goal.returns-clause-again
returns-clause-again c = read_again_law

pub returns-clause-fault : goal.returns-clause-fault
returns-clause-fault c = fault_law

pub returns-clause-none : goal.returns-clause-none
returns-clause-none c = no_value_law

pub returns-clause-leftmost : goal.returns-clause-leftmost
returns-clause-leftmost c = leftmost_law
