use Rattle.leaf_core.specs.KeyTree.{key_code}
use Rattle.leaf_core.specs.EqualityByCode.{same_by_is}
use Rattle.leaf_core.proofs.key.LeafKeyPartialEq.eq.Goals as goal

pub returns : goal.returns
returns c = same_by_is key_code _ _ _ c.same.ensures
