use Rattle.leaf_core.specs.ExpressionView.{expression_of}
use Rattle.sample_core.specs.TypeView.{type_of}
use Rattle.leaf_core.proofs.PartNumbers.{element_found}
use Rattle.leaf_core.proofs.parts.part.Goals as goal

pub returns-in-Elements : goal.returns-in-Elements
returns-in-Elements c =
    element_found (expression_of c.args.expr.now) (type_of c.in-Elements.field-0.now) c.as_slice.result.now c.in-Elements.all.now c.args.k c.get-in-Elements.result
    c.in-Elements.ensures.seen c.as_slice.ensures c.get-in-Elements.ensures.lookup.1 c.get-in-Elements.ensures.lookup.3
