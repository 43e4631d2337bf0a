-- The members of a collection by their numbers.
use Rattle.std.proofs.Common.{◌≡◌, ℕ, zero, suc, ◌≤◌, ◌<◌, List, [], ◌∷◌, length, get_or, Some, None, refl, ap, arith}
use Rattle.leaf_core.specs.declared.expr.Expr.{Expr}
use Rattle.net_tree.specs.NetworkView.{members_of, tree_of, trees}
use Rattle.net_tree.specs.Place.{member}
use Rattle.net_tree.specs.declared.net.Net.{Net}
use Rattle.net_meaning.specs.Typing.{members}

pub members-trees : (all : List (Net Expr)) → members (trees (members_of all)) ≡ length all
members-trees [] = refl
members-trees (f ∷ fs) = ap suc (members-trees fs)

pub member-there : (all : List (Net Expr)) (i : ℕ) (f : Net Expr) → i < length all → member (trees (members_of all)) i ≡ Some (tree_of (get_or all i f))
member-there [] i f h = absurd (omega arith)
member-there (g ∷ fs) zero f h = refl
member-there (g ∷ fs) (suc i) f h = member-there fs i f (omega arith)

pub member-missing : (all : List (Net Expr)) (i : ℕ) → length all ≤ i → member (trees (members_of all)) i ≡ None
member-missing [] i h = refl
member-missing (g ∷ fs) zero h = absurd (omega arith)
member-missing (g ∷ fs) (suc i) h = member-missing fs i (omega arith)
