use Rattle.std.proofs.Common.{ap, ◌∙◌}
use Rattle.std.proofs.lemmas.Result.{MatchResult-weaker}
use Rattle.leaf_core.specs.Expression.{Expression}
use Rattle.leaf_core.specs.ExpressionView.{expression_of}
use Rattle.leaf_expr.specs.Grammar.{expression_sort}
use Rattle.leaf_expr.specs.Language.{no_place}
use Rattle.leaf_expr.proofs.ReadSteps.{made, told}
use Rattle.leaf_expr.proofs.PartSteps.{ended, no_end}
use Rattle.net_text.specs.ReadNet.{language}
use Rattle.net_text.proofs.ReadSteps.{leaf_part, no_leaf, read_behind, refused_behind}
use Rattle.net_text.proofs.network_reader.last_expr_at.Goals as goal

pub returns-in_err-expr : goal.returns-in_err-expr
returns-in_err-expr c = told _ _ _ _ c.from_residual.ensures.1 (no_leaf _ _ _ expression_sort _ no_place (λ e. e) _ c.in_err-expr.ensures)

pub returns : goal.returns
returns c =
    MatchResult-weaker c.both.result c.both.ensures
    (λ x h. made _
    (leaf_part _ _ _ {R = Expression} expression_sort no_place (λ e. e) _ c.in_ok-expr.ensures
    ∙ ended (language c.args.text.now) _ _ _ _ (read_behind _ _ h.1 c.form_end.ensures))
    (ap expression_of h.0))
    (λ x h m. leaf_part _ _ _ {R = Expression} expression_sort no_place (λ e. e) _ c.in_ok-expr.ensures
    ∙ no_end (language c.args.text.now) _ _ _ _ _ (refused_behind _ _ h c.form_end.ensures) m)
