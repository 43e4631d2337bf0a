use Rattle.std.proofs.Common.{◌≡◌, true, false, length, arith}
use Rattle.net_tree.specs.NetworkView.{tree}
use Rattle.law_rules.specs.Forward.{one_to_64}
use Rattle.law_rules.proofs.AnsweredParts.{answered}
use Rattle.law_rules.proofs.Gathered.{not_gathered, gathered-behind}
use Rattle.law_rules.proofs.collections.members_behind.Goals as goal

pub returns-then-not-is_1_to_64 : goal.returns-then-not-is_1_to_64
returns-then-not-is_1_to_64 c =
    let b : false ≡ one_to_64 (length c.as_slice-fs.result.now) = grind arith in
    not_gathered (tree c.args.h.now) _ _ c.as_slice-fs.ensures b

pub returns : goal.returns
returns c =
    let b : true ≡ one_to_64 (length c.as_slice-fs.result.now) = grind arith in
    answered _ _ _ (gathered-behind (tree c.args.h.now) _ _ _ c.as_slice-fs.ensures b c.in_ok-all.ensures) c.gathered.ensures
