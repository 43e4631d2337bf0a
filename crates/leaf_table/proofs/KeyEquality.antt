-- The `==` of keys is equality of their trees.
use Rattle.std.proofs.Common.{◌≡◌, true}
use Rattle.leaf_core.specs.KeyTree.{KeyTree, key_code}
use Rattle.leaf_core.specs.EqualityByCode.{same_by, same_by_decides}

pub key_same : (x y : KeyTree) → same_by key_code x y ≡ true → x ≡ y
key_same x y e = (same_by_decides key_code x y).0 e
