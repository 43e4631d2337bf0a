use Rattle.leaf_core.specs.ExpressionView.{expression_of}
use Rattle.law_patterns.proofs.Steps.{bound-again}
use Rattle.law_patterns.proofs.letters.Letters.bind.Goals as goal

pub returns-in-Some : goal.returns-in-Some
returns-in-Some c = λ es.
    bound-again _ (expression_of c.in-Some.earlier.now) _ _ es _ _ c.in-Some.ensures c.same_expr.ensures
