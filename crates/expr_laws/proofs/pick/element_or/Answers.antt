use Rattle.std.proofs.Common.{◌≡◌, arith, pos}
use Rattle.std.proofs.lemmas.Grind.{common_steps}
use Rattle.leaf_core.specs.ExpressionView.{expression_of}
use Rattle.expr_laws.proofs.Elements.{picked-found, picked-missing}
use Rattle.expr_laws.proofs.pick.element_or.Goals as goal

pub returns-in-Some : goal.returns-in-Some
returns-in-Some c =
    let place : c.args.at ≡ pos c.in-Ok.at = grind (arith, common_steps) in
    grind (arith, common_steps, picked-found c.args.all.now c.args.at c.in-Ok.at (expression_of c.args.default.now) c.in-Some.found.now place c.in-Some.ensures.lookup.3.0)

pub returns-in-None : goal.returns-in-None
returns-in-None c =
    let place : c.args.at ≡ pos c.in-Ok.at = grind (arith, common_steps) in
    grind (arith, common_steps, picked-missing c.args.all.now c.args.at c.in-Ok.at (expression_of c.args.default.now) place c.in-None.ensures.lookup.3)
