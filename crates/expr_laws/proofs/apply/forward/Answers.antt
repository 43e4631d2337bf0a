use Rattle.std.proofs.Common.{sym, ◌∙◌}
use Rattle.leaf_core.specs.ExpressionView.{expression_of}
use Rattle.expr_laws.specs.declared.table.Rule.TheVariants.{Spread, Constant, Compute, Pick, Turn, Compare, Lift}
use Rattle.expr_laws.proofs.Answered.{no-law, by-name, by-patterns}
use Rattle.expr_laws.proofs.apply.forward.Goals as goal

pub returns-in-Nothing : goal.returns-in-Nothing
returns-in-Nothing c = no-law c.args.number (expression_of c.args.expr.now) (sym c.in-Nothing.is ∙ c.law_rule-rule.ensures.rule)

pub returns-in-Sides : goal.returns-in-Sides
returns-in-Sides c =
    by-patterns c.args.number (expression_of c.args.expr.now) c.law_rule-rule.result.1.now c.law_rule-rule.result.2.now c.rewrite_expr.result (sym c.in-Sides.is ∙ c.law_rule-rule.ensures.rule)
    c.law_rule-rule.ensures.left c.law_rule-rule.ensures.right c.rewrite_expr.ensures

pub returns-in-Spread : goal.returns-in-Spread
returns-in-Spread c = by-name c.args.number (expression_of c.args.expr.now) Spread c.spread_then.result (sym c.in-Spread.is ∙ c.law_rule-rule.ensures.rule) (λ h. h.1) c.spread_then.ensures

pub returns-in-Constant : goal.returns-in-Constant
returns-in-Constant c = by-name c.args.number (expression_of c.args.expr.now) Constant c.constant_behind.result (sym c.in-Constant.is ∙ c.law_rule-rule.ensures.rule) (λ h. h.1) c.constant_behind.ensures

pub returns-in-Compute : goal.returns-in-Compute
returns-in-Compute c = by-name c.args.number (expression_of c.args.expr.now) Compute c.computed.result (sym c.in-Compute.is ∙ c.law_rule-rule.ensures.rule) (λ h. h.1) c.computed.ensures

pub returns-in-Pick : goal.returns-in-Pick
returns-in-Pick c = by-name c.args.number (expression_of c.args.expr.now) Pick c.pick_element.result (sym c.in-Pick.is ∙ c.law_rule-rule.ensures.rule) (λ h. h.1) c.pick_element.ensures

pub returns-in-Turn : goal.returns-in-Turn
returns-in-Turn c = by-name c.args.number (expression_of c.args.expr.now) Turn c.turned.result (sym c.in-Turn.is ∙ c.law_rule-rule.ensures.rule) (λ h. h.1) c.turned.ensures

pub returns-in-Compare : goal.returns-in-Compare
returns-in-Compare c = by-name c.args.number (expression_of c.args.expr.now) Compare c.compared.result (sym c.in-Compare.is ∙ c.law_rule-rule.ensures.rule) (λ h. h.1) c.compared.ensures

pub returns-in-Lift : goal.returns-in-Lift
returns-in-Lift c = by-name c.args.number (expression_of c.args.expr.now) Lift c.lifted.result (sym c.in-Lift.is ∙ c.law_rule-rule.ensures.rule) (λ h. h.1) c.lifted.ensures
