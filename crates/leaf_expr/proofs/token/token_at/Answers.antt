use Rattle.leaf_expr.proofs.TokenSteps.{opening_cut, closing_cut}
use Rattle.leaf_expr.proofs.token.token_at.Goals as goal

pub returns-in-Open-clause-token : goal.returns-in-Open-clause-token
returns-in-Open-clause-token c = opening_cut c.args.at c.in-Open.start c.args.text.now c.in-Open.ensures

pub returns-in-Close-clause-token : goal.returns-in-Close-clause-token
returns-in-Close-clause-token c = closing_cut c.args.at c.in-Close.start c.args.text.now c.in-Close.ensures
