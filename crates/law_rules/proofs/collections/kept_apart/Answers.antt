use Rattle.std.proofs.Common.{◌≡◌, Some, true, false, length, ap, ap₂, ◌∙◌, arith}
use Rattle.leaf_core.specs.ExpressionView.{expression_of}
use Rattle.net_tree.specs.Network.{par, seq}
use Rattle.net_tree.specs.NetworkView.{tree}
use Rattle.law_rules.specs.Forward.{one_to_64}
use Rattle.law_rules.proofs.Gathered.{not_kept, gathered-kept}
use Rattle.law_rules.proofs.collections.kept_apart.Goals as goal

pub returns-then-not-is_1_to_64 : goal.returns-then-not-is_1_to_64
returns-then-not-is_1_to_64 c =
    let b : false ≡ one_to_64 (length c.as_slice.result.now) = grind arith in
    not_kept (expression_of c.args.e.now) _ _ c.as_slice.ensures b

pub returns-in-Ok : goal.returns-in-Ok
returns-in-Ok c =
    let b : true ≡ one_to_64 (length c.as_slice.result.now) = grind arith in
    ap₂ (λ f g. Some (seq f (tree g))) c.in-Ok.ensures (c.in_ok-all.ensures ∙ ap par c.in_ok-fs.ensures)
    ∙ gathered-kept (expression_of c.args.e.now) _ _ c.as_slice.ensures b
