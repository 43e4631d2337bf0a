use Rattle.std.proofs.Common.{◌≡◌, suc, ◌+◌, arith, sym, ap, ◌∙◌, subst}
use Rattle.sample_core.specs.TypeView.{type_of}
use Rattle.leaf_core.specs.Expression.{list_expr}
use Rattle.leaf_core.specs.ExpressionView.{expression_of}
use Rattle.expr_laws.specs.ExpressionLaw.{is_if}
use Rattle.expr_laws.proofs.Lifting.{NoneIf, one-more, none-lifted, list-lifted, not_if}
use Rattle.expr_laws.proofs.lift.lift_all.Goals as goal

pub returns-in-If : goal.returns-in-If
returns-in-If c =
    list-lifted c.choice.result (type_of c.args.element.now) c.args.all.now c.loop-k.k c.index-all-k.result c.in-If.c c.in-If.a c.in-If.b c.in_ok-first.first c.in_ok-second.second c.loop-k.invariant
    (omega (arith, c.loop-k-test.true)) c.index-all-k.is c.in-If.is c.in_ok-first.ensures c.in_ok-second.ensures c.choice.ensures

pub loop-k-preserved : goal.loop-k-preserved
loop-k-preserved c =
    let next : suc c.loop-k.k ≡ c.loop-k.k + 1 = omega arith in
    subst (λ n. NoneIf n c.args.all.now) next
    (one-more c.loop-k.k c.args.all.now c.index-all-k.result c.loop-k.invariant
    (ap (λ e. is_if (expression_of e)) (sym c.index-all-k.is) ∙ not_if c.index-all-k.result c.in_default.not-If))

pub returns : goal.returns
returns c = none-lifted (list_expr (type_of c.args.element.now)) c.loop-k.k c.args.all.now c.loop-k.invariant (omega (arith, c.loop-k-test.false))
