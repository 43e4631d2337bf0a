use Rattle.std.proofs.Common.{arith}
use Rattle.std.proofs.lemmas.Grind.{common_steps}
use Rattle.leaf_core.specs.ExpressionView.{expression_of}
use Rattle.expr_laws.specs.ExpressionLaw.{ExpressionLaw}
use Rattle.expr_laws.proofs.Answered.{found-law, other-side}
use Rattle.expr_laws.proofs.apply.backward.Goals as goal

pub returns-then-not-same : goal.returns-then-not-same
returns-then-not-same c =
    let k : ExpressionLaw c.args.number (expression_of c.args.given.now) (expression_of c.in-Some.right) = found-law c.args.number (expression_of c.args.given.now) c.in_ok-right.field-0 c.in-Some.right c.in_ok-right.ensures c.in-Some.is in
    other-side c.args.number (expression_of c.args.given.now) (expression_of c.args.expr.now) (expression_of c.in-Some.right) k (λ q. absurd (grind (arith, common_steps, q)))
