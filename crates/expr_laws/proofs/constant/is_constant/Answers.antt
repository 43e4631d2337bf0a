use Rattle.std.proofs.Common.{ap, sym, ◌∙◌}
use Rattle.sample_core.specs.TypeView.{type_of}
use Rattle.leaf_core.specs.Expression.{list_expr, expressions_of}
use Rattle.leaf_core.specs.ExpressionView.{expression_of}
use Rattle.expr_laws.specs.Direct.{is_constant}
use Rattle.expr_laws.proofs.Elements.{constant-list}
use Rattle.expr_laws.proofs.constant.is_constant.Goals as goal

pub returns-in-List : goal.returns-in-List
returns-in-List c =
    c.is_empty.ensures ∙ constant-list (type_of c.in-List.field-0) c.as_slice.result.now
    ∙ ap (λ es. is_constant (list_expr (type_of c.in-List.field-0) (expressions_of es))) c.as_slice.ensures
    ∙ ap (λ e. is_constant (expression_of e)) (sym c.in-List.is)
