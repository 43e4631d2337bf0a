use Rattle.law_rules.proofs.Answered.{one_answer, same_answer}
use Rattle.law_rules.proofs.laws.answer_laws.Goals as goal

pub returns-clause-one_answer : goal.returns-clause-one_answer
returns-clause-one_answer c = one_answer

pub returns-clause-same : goal.returns-clause-same
returns-clause-same c = same_answer
