use Rattle.std.proofs.Common.{ap, ◌∙◌}
use Rattle.sample_core.specs.TypeView.{type_of}
use Rattle.leaf_core.specs.ExpressionView.{expression_of}
use Rattle.expr_laws.proofs.Lifting.{list-made}
use Rattle.expr_laws.proofs.lift.list_with.Goals as goal

pub returns : goal.returns
returns c =
    list-made c.new-2.result (type_of c.args.element.now) (type_of c.in_ok-element.element) c.args.all.now c.in_ok-changed.changed.items c.in_ok-changed-2.changed c.args.k c.in_ok-part.part c.args.part.now
    (ap type_of c.in_ok-element.ensures) c.in_ok-changed.ensures c.in_ok-changed-2.ensures (ap expression_of c.in_ok-part.ensures ∙ c.get.ensures) c.new-2.ensures
