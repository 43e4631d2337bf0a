use Rattle.std.proofs.Common.{◌∙◌}
use Rattle.leaf_expr.proofs.NaturalSteps.{natural_found, natural_wild, kept}
use Rattle.leaf_expr.proofs.word.natural_word.Goals as goal

pub returns-in-Some-clause-number : goal.returns-in-Some-clause-number
returns-in-Some-clause-number c =
    natural_found c.args.low c.args.high c.requires c.args.word.now c.in_ok-n.n c.in-Some.k c.in_ok-n.ensures
    (c.in-Some.ensures.number ∙ kept c.args.low c.args.high c.requires c.args.word.now c.in_ok-n.n c.in_ok-n.ensures)

pub returns-in-None-clause-number : goal.returns-in-None-clause-number
returns-in-None-clause-number c =
    natural_wild c.args.low c.args.high c.requires c.args.word.now c.in_ok-n.n c.in_ok-n.ensures
    (c.in-None.ensures.number ∙ kept c.args.low c.args.high c.requires c.args.word.now c.in_ok-n.n c.in_ok-n.ensures)
