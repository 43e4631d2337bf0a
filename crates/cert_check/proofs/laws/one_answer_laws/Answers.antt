use Rattle.cert_check.proofs.OneAnswer.{one_next, one_answer}
use Rattle.cert_check.proofs.laws.one_answer_laws.Goals as goal

pub returns-clause-one_next : goal.returns-clause-one_next
returns-clause-one_next c = one_next

pub returns-clause-one_answer : goal.returns-clause-one_answer
returns-clause-one_answer c = one_answer
