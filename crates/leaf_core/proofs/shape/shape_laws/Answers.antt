use Rattle.leaf_core.proofs.ShapeValue.{shape_values}
use Rattle.leaf_core.proofs.shape.shape_laws.Goals as goal

pub returns : goal.returns
returns c = shape_values
