-- Steps of printing networks, as the code takes them.
use Rattle.std.proofs.Common.{ℕ, suc, zero, ◌≤◌, ◌<◌, List, [], ◌∷◌, length, arith, get_or}
use Rattle.net_tree.specs.Network.{network_size, networks_size}
use Rattle.net_tree.specs.NetworkView.{network_of, members_of}
use Rattle.net_tree.specs.declared.net.Net.{Net}

-- a member holds fewer networks than the members
pub member_falls : {L : Type 0} (all : List (Net L)) (i : ℕ) (e : Net L) → i < length all
    → network_size (network_of (get_or all i e)) ≤ networks_size (members_of all)
member_falls [] i e h = absurd (omega arith)
member_falls (x ∷ xs) zero e h = omega arith
member_falls (x ∷ xs) (suc i) e h = omega (arith, member_falls xs i e (omega arith))
