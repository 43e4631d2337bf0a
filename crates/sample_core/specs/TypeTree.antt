-- Types of values as mathematical trees: what a `Ty` is to every contract.
use Rattle.std.specs.Prelude.{ℕ, suc, ◌+◌, max}

-- a type of values
pub data TypeTree : Type 0 where
  unit_ty : TypeTree
  bool_ty : TypeTree
  int_ty : TypeTree
  pair_ty : TypeTree → TypeTree → TypeTree
  event_ty : TypeTree → TypeTree
  list_ty : TypeTree → TypeTree

-- what is counted in a type: 1 where it has no parts, else 1 more than what the counts of its parts
-- join to
abbrev pub counted : (ℕ → ℕ → ℕ) → TypeTree → ℕ
counted join unit_ty = 1
counted join bool_ty = 1
counted join int_ty = 1
counted join (pair_ty A B) = suc (join (counted join A) (counted join B))
counted join (event_ty A) = suc (counted join A)
counted join (list_ty A) = suc (counted join A)

-- how many types stand in one another, at most: `Int` has depth 1
abbrev pub depth_of : TypeTree → ℕ
depth_of A = counted max A

-- how many types a type is made of, itself counted
abbrev pub nodes_of : TypeTree → ℕ
nodes_of A = counted ◌+◌ A
