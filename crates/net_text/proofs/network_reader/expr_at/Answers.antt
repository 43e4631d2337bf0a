use Rattle.leaf_expr.specs.Grammar.{expression_sort}
use Rattle.leaf_expr.specs.ReadText.{expression_left}
use Rattle.net_text.proofs.ReadSteps.{room_left}
use Rattle.net_text.proofs.network_reader.expr_at.Goals as goal

pub returns : goal.returns
returns c =
    room_left expression_sort c.args.text.now c.args.room c.args.at (expression_left c.args.text.now) c.read_expr_at.result c.requires
    c.read_expr_at.ensures.found c.read_expr_at.ensures.refused
