use Rattle.net_text.proofs.FileRead.{read_file_law, one_file, file_fault_law}
use Rattle.net_text.proofs.laws.file_laws.Goals as goal

pub returns-clause-files : goal.returns-clause-files
returns-clause-files c = read_file_law

pub returns-clause-one_file : goal.returns-clause-one_file
returns-clause-one_file c = one_file

pub returns-clause-fault : goal.returns-clause-fault
returns-clause-fault c = file_fault_law
