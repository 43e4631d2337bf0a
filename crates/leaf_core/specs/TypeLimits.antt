-- How deep and how large types may be, and when two types are the same.
use Rattle.std.specs.Prelude.{◌≡◌, ℕ, ◌+◌, ◌≤◌, Bool, true, false, ◌&&◌, leb, Option, MatchOption}
use Rattle.sample_core.specs.TypeTree.{TypeTree, depth_of, nodes_of, unit_ty, bool_ty, int_ty, pair_ty, event_ty, list_ty}

-- a type within the limits
pub record TypeFits (t : TypeTree) : Type 0 where
  pub shallow : depth_of t ≤ 32
  pub small : nodes_of t ≤ 256

-- whether a type is within the limits
abbrev pub type_fits : TypeTree → Bool
type_fits t = leb (depth_of t) 32 && leb (nodes_of t) 256

-- how many of `most` are left after so many nodes, of at most this depth; none where the tree is
-- deeper, or has more
abbrev pub NodesLeft : Option ℕ → ℕ → ℕ → ℕ → ℕ → Type 0
NodesLeft result depth nodes deepest most =
    MatchOption result (depth ≤ deepest → nodes ≤ most → ⊥)
    (λ left. (depth ≤ deepest) × (nodes + left ≡ most))

-- whether two types are the same
abbrev pub same_tree : TypeTree → TypeTree → Bool
same_tree unit_ty unit_ty = true
same_tree bool_ty bool_ty = true
same_tree int_ty int_ty = true
same_tree (pair_ty A B) (pair_ty C D) = same_tree A C && same_tree B D
same_tree (event_ty A) (event_ty B) = same_tree A B
same_tree (list_ty A) (list_ty B) = same_tree A B
same_tree _ _ = false
