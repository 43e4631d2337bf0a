use Rattle.leaf_expr.proofs.TextLaws.{read_text_law, one_text, text_fault_law}
use Rattle.leaf_expr.proofs.text_laws.whole_text_laws.Goals as goal

pub returns-clause-texts : goal.returns-clause-texts
returns-clause-texts c = read_text_law

pub returns-clause-one_text : goal.returns-clause-one_text
returns-clause-one_text c = one_text

pub returns-clause-text_fault : goal.returns-clause-text_fault
returns-clause-text_fault c = text_fault_law
