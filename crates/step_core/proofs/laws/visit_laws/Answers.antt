use Rattle.leaf_core.specs.ExpressionValue.{value_of}
use Rattle.step_core.proofs.CausalVisits.{visits-take}
use Rattle.step_core.proofs.EnvironmentBounds.{IsCount-visited}
use Rattle.step_core.proofs.laws.visit_laws.Goals as goal

pub returns-clause-bounded : goal.returns-clause-bounded
returns-clause-bounded c = IsCount-visited value_of

pub returns-clause-causal : goal.returns-clause-causal
returns-clause-causal c = visits-take value_of
