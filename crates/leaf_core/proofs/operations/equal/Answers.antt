use Rattle.leaf_core.proofs.SameDatum.{as_same_datum}
use Rattle.leaf_core.proofs.operations.equal.Goals as goal

pub returns : goal.returns
returns c = as_same_datum _ _ _ c.same.ensures
