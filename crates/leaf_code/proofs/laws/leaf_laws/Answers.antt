use Rattle.leaf_code.proofs.Values.{leaf-value}
use Rattle.leaf_code.proofs.Fitting.{leaf-fits}
use Rattle.leaf_code.proofs.laws.leaf_laws.Goals as goal

pub returns-clause-value : goal.returns-clause-value
returns-clause-value c = λ e Ps A ps x. leaf-value ps x Ps A e

pub returns-clause-fits : goal.returns-clause-fits
returns-clause-fits c = leaf-fits
