use Rattle.std.proofs.Common.{ap, sym}
use Rattle.sample_core.specs.TypeView.{type_of}
use Rattle.leaf_core.specs.ExpressionView.{expression_of}
use Rattle.net_tree.specs.Network.{arr}
use Rattle.law_rules.specs.Forward.{law42}
use Rattle.law_rules.proofs.AnsweredParts.{answered}
use Rattle.law_rules.proofs.collections.list_apart.Goals as goal

pub returns-in-List : goal.returns-in-List
returns-in-List c =
    answered _ _ _ (ap (λ e. law42 (arr (expression_of e))) (sym c.in-List.is)) (c.elements_each.ensures (type_of c.in-List.field-0))
