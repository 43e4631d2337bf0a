-- Members with another one.
use Rattle.std.proofs.Common.{◌≡◌, ℕ, zero, suc, ◌≤◌, ◌<◌, List, [], ◌∷◌, length, set, Some, None, option_map, refl, ap, sym, ◌∙◌, subst, arith}
use Rattle.leaf_core.specs.Expression.{Expression}
use Rattle.leaf_core.specs.declared.expr.Expr.{Expr}
use Rattle.net_tree.specs.Network.{Network, Networks, and_member}
use Rattle.net_tree.specs.NetworkView.{members_of, tree_of, trees}
use Rattle.net_syntax.specs.Placed.{with_member}
use Rattle.net_tree.specs.declared.net.Net.{Net}

member_set : (all : List (Net Expr)) (k : ℕ) (x : Net Expr) → k < length all
    → with_member (trees (members_of all)) k (tree_of x) ≡ Some (trees (members_of (set all k x)))
member_set [] k x h = absurd (omega arith)
member_set (f ∷ fs) zero x h = refl
member_set (f ∷ fs) (suc k) x h = ap (option_map (and_member (tree_of f))) (member_set fs k x (omega arith))

-- with another in the place of one
pub member_put : (all : List (Net Expr)) (fs : Networks Expr) (k : ℕ) (x : Net Expr) → members_of all ≡ fs → k < length all
    → with_member (trees fs) k (tree_of x) ≡ Some (trees (members_of (set all k x)))
member_put all fs k x p h = subst (λ z. with_member (trees z) k (tree_of x) ≡ Some (trees (members_of (set all k x)))) p (member_set all k x h)

no_member : (all : List (Net Expr)) (k : ℕ) (s : Network Expression) → length all ≤ k → with_member (trees (members_of all)) k s ≡ None
no_member [] k s h = refl
no_member (f ∷ fs) zero s h = absurd (omega arith)
no_member (f ∷ fs) (suc k) s h = ap (option_map (and_member (tree_of f))) (no_member fs k s (omega arith))

-- where there is no such one
pub no_member_put : (all : List (Net Expr)) (fs : Networks Expr) (k : ℕ) (s : Network Expression) → members_of all ≡ fs → length all ≤ k
    → with_member (trees fs) k s ≡ None
no_member_put all fs k s p h = ap (λ z. with_member (trees z) k s) (sym p) ∙ no_member all k s h
