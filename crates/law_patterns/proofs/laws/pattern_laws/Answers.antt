use Rattle.law_patterns.proofs.OneRightSide.{one_right_side, net_one_right_side}
use Rattle.law_patterns.proofs.laws.pattern_laws.Goals as goal

pub returns-clause-expressions : goal.returns-clause-expressions
returns-clause-expressions c = one_right_side

pub returns-clause-networks : goal.returns-clause-networks
returns-clause-networks c = net_one_right_side
