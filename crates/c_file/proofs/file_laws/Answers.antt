use Rattle.c_file.proofs.Programs.{file_law, checked_file_law, guarded_file_law, hands_law}
use Rattle.c_file.proofs.file_laws.Goals as goal

pub returns-clause-file : goal.returns-clause-file
returns-clause-file c = file_law

pub returns-clause-checked : goal.returns-clause-checked
returns-clause-checked c = checked_file_law

pub returns-clause-hands : goal.returns-clause-hands
returns-clause-hands c = hands_law

pub returns-clause-guarded : goal.returns-clause-guarded
returns-clause-guarded c = guarded_file_law
