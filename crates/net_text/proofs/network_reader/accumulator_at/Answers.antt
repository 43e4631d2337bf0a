use Rattle.std.proofs.Common.{ap, ◌∙◌}
use Rattle.leaf_core.specs.ExpressionView.{expression_of}
use Rattle.leaf_expr.specs.Grammar.{expression_sort}
use Rattle.leaf_expr.specs.Language.{no_place}
use Rattle.leaf_expr.proofs.ReadSteps.{told, made}
use Rattle.leaf_expr.proofs.PartSteps.{parts_made, parts_refused}
use Rattle.net_text.specs.Form.{accumulator_form_of}
use Rattle.net_text.specs.ReadNet.{language}
use Rattle.net_text.specs.Grammar.{e}
use Rattle.net_text.proofs.ReadSteps.{leaf_part, no_leaf, read_behind, refused_behind}
use Rattle.net_text.proofs.network_reader.accumulator_at.Goals as goal

pub returns-in_err-g : goal.returns-in_err-g
returns-in_err-g c =
    told _ _ _ _ c.from_residual.ensures.1 (no_leaf _ _ _ expression_sort _ (e no_place) (accumulator_form_of c.args.form) _ c.in_err-g.ensures)

pub returns-in_err-g-2 : goal.returns-in_err-g-2
returns-in_err-g-2 c =
    told _ _ _ _ c.from_residual-in_err-g-2.ensures.1
    (λ m. leaf_part _ _ _ expression_sort (e no_place) (accumulator_form_of c.args.form) _ c.in_ok-g.ensures
    ∙ parts_refused (language c.args.text.now) _ _ (accumulator_form_of c.args.form (expression_of c.in_ok-g.g)) _ (e no_place) (λ x. x) _
    (refused_behind _ _ c.in_err-g-2.ensures c.last_expr_at.ensures) m)

pub returns : goal.returns
returns c =
    made _
    (leaf_part _ _ _ expression_sort (e no_place) (accumulator_form_of c.args.form) _ c.in_ok-g.ensures
    ∙ parts_made (language c.args.text.now) _ _ (accumulator_form_of c.args.form (expression_of c.in_ok-g.g)) (e no_place) (λ x. x) _
    (read_behind _ _ c.in_ok-g-2.ensures.1 c.last_expr_at.ensures))
    (c.in_ok-of.ensures ∙ ap (λ g. accumulator_form_of c.args.form (expression_of g) (expression_of c.in_ok-g-2.z)) c.in_ok-g-2.ensures.0)
