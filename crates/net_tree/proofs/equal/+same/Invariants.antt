use Rattle.std.proofs.Common.{◌≡◌, ◌↔◌, ◌+◌, ◌*◌, drop}
use Rattle.net_tree.specs.Network.{network_size, networks_size}
use Rattle.net_tree.specs.NetworkView.{tree_of, tree, trees, members_of}
use Rattle.net_tree.proofs.equal.+same.Given as goal

-- the members to come are equal exactly where all are
abbrev pub invariant-same_members-loop-i : goal.invariant-same_members-loop-i
invariant-same_members-loop-i l =
    (trees (members_of (drop l.i l.all)) ≡ trees (members_of (drop l.i l.others)))
    ↔ (trees (members_of l.all) ≡ trees (members_of l.others))

abbrev pub decreases-same_inside : goal.decreases-same_inside
decreases-same_inside l = 6 * network_size (tree_of l.a.now) + 1

abbrev pub decreases-same_net : goal.decreases-same_net
decreases-same_net l = 6 * network_size (tree_of l.a.now) + 2

abbrev pub decreases-same_child : goal.decreases-same_child
decreases-same_child l = 6 * network_size (tree l.f.now) + 3

abbrev pub decreases-same_members : goal.decreases-same_members
decreases-same_members l = 6 * networks_size (trees l.fs.now) + 3

abbrev pub decreases-same_two : goal.decreases-same_two
decreases-same_two l = 6 * (network_size (tree l.f.now) + network_size (tree l.g.now)) + 4
