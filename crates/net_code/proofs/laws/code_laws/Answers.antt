use Rattle.net_code.proofs.Streams.{code_law, leaf_code_law, machine_law}
use Rattle.net_code.proofs.CallBounds.{calls_law}
use Rattle.net_code.proofs.laws.code_laws.Goals as goal

pub returns-clause-machine : goal.returns-clause-machine
returns-clause-machine c = machine_law

pub returns-clause-outputs : goal.returns-clause-outputs
returns-clause-outputs c = code_law

pub returns-clause-calls : goal.returns-clause-calls
returns-clause-calls c = calls_law

pub returns-clause-leaves : goal.returns-clause-leaves
returns-clause-leaves c = leaf_code_law
