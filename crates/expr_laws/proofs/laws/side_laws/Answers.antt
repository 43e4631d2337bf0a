use Rattle.expr_laws.proofs.Numbers.{one_right_side, law_numbers}
use Rattle.expr_laws.proofs.SideValues.{side_value}
use Rattle.expr_laws.proofs.SideTypes.{side_type}
use Rattle.expr_laws.proofs.laws.side_laws.Goals as goal

pub returns-clause-values : goal.returns-clause-values
returns-clause-values c = side_value

pub returns-clause-types : goal.returns-clause-types
returns-clause-types c = side_type

pub returns-clause-one_right_side : goal.returns-clause-one_right_side
returns-clause-one_right_side c = one_right_side

pub returns-clause-numbers : goal.returns-clause-numbers
returns-clause-numbers c = law_numbers
