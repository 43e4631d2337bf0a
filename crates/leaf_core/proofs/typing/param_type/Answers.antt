use Rattle.std.proofs.Common.{ap, arith}
use Rattle.std.proofs.lemmas.Grind.{common_steps}
use Rattle.sample_core.specs.Answer.{◌>>=◌}
use Rattle.leaf_core.specs.ExpressionCheck.{within_limits}
use Rattle.leaf_core.proofs.Places.{type_found, type_missing}
use Rattle.leaf_core.proofs.typing.param_type.Goals as goal

pub returns-in-Some : goal.returns-in-Some
returns-in-Some c = grind (arith, common_steps, type_found c.args.params.now c.args.k c.in-Some.ty.now c.in-Some.ensures.lookup.3.0)

pub returns-in-None : goal.returns-in-None
returns-in-None c = λ h. ap (λ r. r >>= within_limits) (type_missing c.args.params.now c.args.k c.in-None.ensures.lookup.3)
