use Rattle.std.proofs.Common.{◌-◌}
use Rattle.leaf_expr.specs.Grammar.{expression_sort}
use Rattle.leaf_expr.specs.ReadText.{expression_left}
use Rattle.leaf_expr.proofs.Answered.{tree_found, tree_only, tree_refused}
use Rattle.leaf_expr.proofs.expr_reader.read_expr_at.Goals as goal
use Rattle.leaf_expr.specs.declared.type_reader.TheConstants.{MOST_OPEN}

pub returns-clause-found : goal.returns-clause-found
returns-clause-found c = tree_found expression_sort c.args.text.now (MOST_OPEN - c.args.depth) c.args.at (expression_left c.args.text.now) c.expr_at.result
    c.expr_at.ensures

pub returns-clause-only : goal.returns-clause-only
returns-clause-only c = tree_only expression_sort c.args.text.now (MOST_OPEN - c.args.depth) c.args.at (expression_left c.args.text.now) c.expr_at.result
    c.expr_at.ensures

pub returns-clause-refused : goal.returns-clause-refused
returns-clause-refused c = tree_refused expression_sort c.args.text.now (MOST_OPEN - c.args.depth) c.args.at (expression_left c.args.text.now) c.expr_at.result
    c.expr_at.ensures
