use Rattle.std.proofs.Common.{ap}
use Rattle.leaf_core.specs.ExpressionView.{expression_of}
use Rattle.law_patterns.specs.Matching.{held_expression}
use Rattle.expr_laws.proofs.Answered.{forward-answered, backward-answered}
use Rattle.expr_laws.proofs.apply.apply_expr.Goals as goal

pub returns-in-Forward-None : goal.returns-in-Forward-None
returns-in-Forward-None c =
    forward-answered c.args.law c.args.direction c.in-E.number (expression_of c.args.expr.now) (held_expression c.args.given) c.forward.result c.in-E.is c.in-Forward-None.is-0
    (ap held_expression c.in-Forward-None.is-1) c.forward.ensures

pub returns-in-Backward-Some : goal.returns-in-Backward-Some
returns-in-Backward-Some c =
    backward-answered c.args.law c.args.direction c.in-E.number (expression_of c.args.expr.now) (expression_of c.in-Backward-Some.given.now) (held_expression c.args.given) c.backward.result c.in-E.is
    c.in-Backward-Some.is-0 (ap held_expression c.in-Backward-Some.is-1) c.backward.ensures
