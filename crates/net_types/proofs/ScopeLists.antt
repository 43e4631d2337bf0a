-- The lists of what is in scope, and the members of a network, as the code has them.
use Rattle.std.proofs.Common.{◌≡◌, ℕ, zero, suc, ◌<◌, ◌≤◌, List, [], ◌∷◌, length, get_or, map, Ok, Err, refl, ap, arith}
use Rattle.leaf_core.specs.ExpressionView.{expression_of}
use Rattle.leaf_core.specs.declared.expr.Expr.{Expr}
use Rattle.net_syntax.specs.ArrowView.{arrow_of}
use Rattle.net_tree.specs.Network.{map_networks}
use Rattle.net_tree.specs.NetworkView.{members_of}
use Rattle.net_meaning.specs.Typing.{members}
use Rattle.net_syntax.specs.declared.arrow.Arrow.{Arrow}
use Rattle.net_tree.specs.declared.net.Net.{Net}
use Rattle.net_types.specs.declared.fault.TypeFault.TheVariants as Fault
use Rattle.net_types.specs.Walk.{old_at, test_members}
use Rattle.net_types.proofs.WalkTests.{counted_passes, counted_fails}

pub old_found : (P : List ℕ) (Os : List Arrow) (k : ℕ) (o : Arrow) → k < length Os → old_at P (map arrow_of Os) k ≡ Ok (arrow_of (get_or Os k o))
old_found P [] k o h = absurd (omega arith)
old_found P (q ∷ Os) zero o h = refl
old_found P (q ∷ Os) (suc k) o h = old_found P Os k o (omega arith)

pub old_missing : (P : List ℕ) (Os : List Arrow) (k : ℕ) → length Os ≤ k → old_at P (map arrow_of Os) k ≡ Err (Fault.NoOld P)
old_missing P [] k h = refl
old_missing P (q ∷ Os) zero h = absurd (omega arith)
old_missing P (q ∷ Os) (suc k) h = old_missing P Os k (omega arith)

-- as many members as networks
pub members_counted : (fs : List (Net Expr)) → members (map_networks expression_of (members_of fs)) ≡ length fs
members_counted [] = refl
members_counted (f ∷ fs) = ap suc (members_counted fs)

-- 1 to 64 members pass the test, and no others
pub members_passed : (P : List ℕ) (fs : List (Net Expr)) → 1 ≤ length fs → length fs ≤ 64
    → test_members P (map_networks expression_of (members_of fs)) ≡ Ok tt
members_passed P fs low high =
    counted_passes P (map_networks expression_of (members_of fs)) (omega (arith, members_counted fs)) (omega (arith, members_counted fs))

pub members_failed : (P : List ℕ) (fs : List (Net Expr)) → (1 ≤ length fs → length fs ≤ 64 → ⊥)
    → test_members P (map_networks expression_of (members_of fs)) ≡ Err (Fault.Members P)
members_failed P fs h =
    counted_fails P (map_networks expression_of (members_of fs)) (λ low high. h (omega (arith, members_counted fs)) (omega (arith, members_counted fs)))
