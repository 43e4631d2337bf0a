use Rattle.yampa_run.proofs.Refusals.{one_refusal, no_network, only_memory}
use Rattle.yampa_run.proofs.file_laws.refusal_laws.Goals as goal

pub returns-clause-one_line : goal.returns-clause-one_line
returns-clause-one_line c = one_refusal

pub returns-clause-no_network : goal.returns-clause-no_network
returns-clause-no_network c = no_network

pub returns-clause-only_memory : goal.returns-clause-only_memory
returns-clause-only_memory c = only_memory
