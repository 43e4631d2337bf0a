use Rattle.std.proofs.Common.{◌≡◌, true, false, length, ap, ◌∙◌, arith}
use Rattle.leaf_core.specs.ExpressionView.{expression_of}
use Rattle.law_rules.specs.Forward.{one_to_64}
use Rattle.law_rules.proofs.AnsweredParts.{answered}
use Rattle.law_rules.proofs.Gathered.{not_routed, gathered-routed}
use Rattle.law_rules.proofs.collections.members_routed.Goals as goal

pub returns-then-not-is_1_to_64 : goal.returns-then-not-is_1_to_64
returns-then-not-is_1_to_64 c =
    let b : false ≡ one_to_64 (length c.as_slice-fs.result.now) = grind arith in
    not_routed (expression_of c.args.r.now) _ _ c.as_slice-fs.ensures b

pub returns-in-Ok : goal.returns-in-Ok
returns-in-Ok c =
    let b : true ≡ one_to_64 (length c.as_slice-fs.result.now) = grind arith in
    let q : c.in_ok-r-2.r ≡ expression_of c.args.r.now = c.in_ok-r-2.ensures ∙ ap expression_of c.in_ok-r.ensures in
    answered _ _ _ (gathered-routed (expression_of c.args.r.now) _ _ _ _ c.as_slice-fs.ensures b q c.in-Ok.ensures) c.gathered.ensures
