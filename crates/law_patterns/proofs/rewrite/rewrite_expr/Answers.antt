use Rattle.leaf_core.specs.ExpressionView.{expression_of}
use Rattle.law_patterns.proofs.Sides.{rewritten-answers}
use Rattle.law_patterns.proofs.rewrite.rewrite_expr.Goals as goal

pub returns : goal.returns
returns c = rewritten-answers c.args.left.now c.args.right.now (expression_of c.args.expr.now) c.rewritten.result c.rewritten.ensures
