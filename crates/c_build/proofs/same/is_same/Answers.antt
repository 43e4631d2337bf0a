use Rattle.leaf_core.proofs.Exactness.{as_same_tree}
use Rattle.c_build.proofs.same.is_same.Goals as goal

pub returns : goal.returns
returns c = as_same_tree _ _ _ c.same_type.ensures
