use Rattle.std.proofs.Common.{◌≡◌, true, false, length, arith}
use Rattle.law_rules.specs.Forward.{one_to_64}
use Rattle.law_rules.proofs.AnsweredParts.{answered}
use Rattle.law_rules.proofs.Gathered.{not_apart, gathered-apart}
use Rattle.law_rules.proofs.collections.elements_each.Goals as goal

pub returns-then-not-is_1_to_64 : goal.returns-then-not-is_1_to_64
returns-then-not-is_1_to_64 c T =
    let b : false ≡ one_to_64 (length c.as_slice-es.result.now) = grind arith in
    not_apart T _ _ c.as_slice-es.ensures b

pub returns : goal.returns
returns c T =
    let b : true ≡ one_to_64 (length c.as_slice-es.result.now) = grind arith in
    answered _ _ _ (gathered-apart T _ _ _ c.as_slice-es.ensures b c.in_ok-all.ensures) c.gathered.ensures
