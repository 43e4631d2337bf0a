use Rattle.law_rules.proofs.SameSides.{same-sides, same-side_outputs}
use Rattle.law_rules.proofs.Numbers.{one-right_side, law-numbers}
use Rattle.law_rules.proofs.laws.side_laws.Goals as goal

pub returns-clause-same_outputs : goal.returns-clause-same_outputs
returns-clause-same_outputs c = same-side_outputs

pub returns-clause-same_sides : goal.returns-clause-same_sides
returns-clause-same_sides c = same-sides

pub returns-clause-one_right_side : goal.returns-clause-one_right_side
returns-clause-one_right_side c = one-right_side

pub returns-clause-numbers : goal.returns-clause-numbers
returns-clause-numbers c = law-numbers
