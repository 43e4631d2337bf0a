use Rattle.net_tree.specs.NetworkView.{tree}
use Rattle.law_rules.proofs.AnsweredParts.{answered, behind}
use Rattle.law_rules.proofs.parts.without_input.Goals as goal

pub returns-in-Seq : goal.returns-in-Seq
returns-in-Seq c = answered _ _ _ (behind _ _ _ _ c.in-Seq.is c.get.ensures) (c.alone.ensures (tree c.in-Seq.field-0))
