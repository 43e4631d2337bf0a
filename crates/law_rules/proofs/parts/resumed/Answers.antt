use Rattle.net_tree.specs.NetworkView.{tree}
use Rattle.law_rules.proofs.AnsweredParts.{answered, frozen_again}
use Rattle.law_rules.proofs.parts.resumed.Goals as goal

pub returns-then-is_old : goal.returns-then-is_old
returns-then-is_old c =
    answered _ _ _ (frozen_again _ _ _ _ _ _ _ _ c.in-KSwitch.is c.get-then-is_old.ensures c.get.ensures c.if-is_old.true
    (c.is_old.ensures (tree c.in-KSwitch.f) (tree c.in-KSwitch.field-1))) c.copied.ensures
