use Rattle.expr_laws.proofs.Answered.{answer_value, one_answer}
use Rattle.expr_laws.proofs.laws.answer_laws.Goals as goal

pub returns-clause-one_answer : goal.returns-clause-one_answer
returns-clause-one_answer c = one_answer

pub returns-clause-values : goal.returns-clause-values
returns-clause-values c = answer_value
