use Rattle.std.proofs.Common.{◌≡◌, ◌+◌, ◌*◌, drop}
use Rattle.leaf_core.specs.ExpressionView.{expression_of}
use Rattle.net_tree.specs.Network.{networks_size, map_networks}
use Rattle.net_tree.specs.NetworkView.{members_of}
use Rattle.net_tree.proofs.Sizes.{net_size}
use Rattle.net_text.specs.Printing.{are_new}
use Rattle.net_text.proofs.new_forms.+is_new.Given as goal

-- nothing is new in the members so far
abbrev pub invariant-are_new-loop-net : goal.invariant-are_new-loop-net
invariant-are_new-loop-net l =
    are_new (map_networks expression_of (members_of (drop l.net-index l.net-items))) ≡ are_new (map_networks expression_of (members_of l.net-items))

abbrev pub decreases-is_new : goal.decreases-is_new
decreases-is_new l = 2 * net_size l.net.now

abbrev pub decreases-are_new : goal.decreases-are_new
decreases-are_new l = 2 * networks_size l.all.now + 1
