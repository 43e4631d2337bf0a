use Rattle.leaf_expr.specs.Grammar.{expression_sort}
use Rattle.leaf_core.specs.ExpressionView.{expression_of}
use Rattle.leaf_expr.proofs.Answered.{whole_found, whole_only, whole_refused}
use Rattle.leaf_expr.proofs.expr_reader.read_expr.Goals as goal

pub returns-clause-found : goal.returns-clause-found
returns-clause-found c = whole_found expression_sort c.args.text.now expression_of c.whole_expr.result c.whole_expr.ensures.exact

pub returns-clause-only : goal.returns-clause-only
returns-clause-only c = whole_only expression_sort c.args.text.now expression_of c.whole_expr.result c.whole_expr.ensures.exact

pub returns-clause-refused : goal.returns-clause-refused
returns-clause-refused c = whole_refused expression_sort c.args.text.now expression_of c.whole_expr.result c.whole_expr.ensures.exact
