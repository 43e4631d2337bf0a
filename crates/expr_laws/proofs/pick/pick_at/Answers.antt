use Rattle.std.proofs.Common.{◌<◌, length, map, arith, ap, ◌∙◌, w64}
use Rattle.std.proofs.lemmas.Int.{to_z-of_z}
use Rattle.leaf_core.specs.Expression.{expressions_of}
use Rattle.leaf_core.specs.ExpressionView.{expression_of}
use Rattle.expr_laws.specs.ExpressionLaw.{picked}
use Rattle.expr_laws.proofs.Elements.{picked_in-some}
use Rattle.expr_laws.proofs.pick.pick_at.Goals as goal

pub returns : goal.returns
returns c =
    let h : 0 < length c.as_slice-all.result.now = omega (arith, c.if-all-eq0.false) in
    picked_in-some c.args.all.now c.as_slice-all.result.now c.args.at (expression_of c.args.default.now) (expression_of c.in_ok-element.element) c.as_slice-all.ensures h
    (ap expression_of c.in_ok-element.ensures ∙ c.element_or.ensures
    ∙ ap (λ n. picked (expressions_of (map expression_of c.as_slice-all.result.now)) n (expression_of c.args.default.now)) (to_z-of_z w64 c.args.at c.ranges.at))
