use Rattle.std.proofs.Common.{ap, ◌∙◌}
use Rattle.sample_core.specs.TypeView.{type_of}
use Rattle.leaf_expr.specs.Grammar.{type_sort}
use Rattle.leaf_expr.specs.Language.{no_place}
use Rattle.leaf_expr.proofs.ReadSteps.{made, told}
use Rattle.leaf_expr.proofs.PartSteps.{ended, no_end}
use Rattle.net_text.specs.ReadNet.{language}
use Rattle.net_text.specs.Sugar.{never}
use Rattle.net_text.proofs.ReadSteps.{leaf_part, no_leaf, read_behind, refused_behind}
use Rattle.net_text.proofs.network_reader.never_at.Goals as goal

pub returns-in_err-carried : goal.returns-in_err-carried
returns-in_err-carried c = told _ _ _ _ c.from_residual.ensures.1 (no_leaf _ _ _ type_sort _ no_place never _ c.in_err-carried.ensures)

pub returns-in_err-carried-2 : goal.returns-in_err-carried-2
returns-in_err-carried-2 c =
    told _ _ _ _ c.from_residual-in_err-carried-2.ensures.1
    (λ m. leaf_part _ _ _ type_sort no_place never _ c.in_ok-carried.ensures
    ∙ no_end (language c.args.text.now) _ _ _ _ _ (refused_behind _ _ c.in_err-carried-2.ensures c.form_end.ensures) m)

pub returns : goal.returns
returns c =
    made _
    (leaf_part _ _ _ type_sort no_place never _ c.in_ok-carried.ensures
    ∙ ended (language c.args.text.now) _ _ _ _ (read_behind _ _ c.in_ok-carried-2.ensures.1 c.form_end.ensures))
    (ap (λ ty. never (type_of ty)) c.in_ok-carried-2.ensures.0)
