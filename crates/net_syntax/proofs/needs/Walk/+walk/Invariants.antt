use Rattle.std.proofs.Common.{◌+◌, ◌*◌}
use Rattle.net_tree.specs.Network.{network_size, networks_size}
use Rattle.net_tree.proofs.Sizes.{net_size, nets_size}
use Rattle.net_syntax.proofs.needs.Walk.+walk.Given as goal

abbrev pub decreases-network : goal.decreases-network
decreases-network l = 10 * net_size l.net.now + 1

abbrev pub decreases-both : goal.decreases-both
decreases-both l = 10 * (network_size l.f.now + network_size l.g.now) + 4

abbrev pub decreases-on_left : goal.decreases-on_left
decreases-on_left l = 10 * network_size l.f.now + 4

abbrev pub decreases-par : goal.decreases-par
decreases-par l = 10 * networks_size l.fs.now + 4

abbrev pub decreases-loop_pre : goal.decreases-loop_pre
decreases-loop_pre l = 10 * network_size l.f.now + 4

abbrev pub decreases-behind_constant : goal.decreases-behind_constant
decreases-behind_constant l = 10 * network_size l.f.now + 4

abbrev pub decreases-switch : goal.decreases-switch
decreases-switch l = 10 * (network_size l.f.now + network_size l.t.now) + 6

abbrev pub decreases-r_switch : goal.decreases-r_switch
decreases-r_switch l = 10 * (network_size l.f.now + network_size l.t.now) + 6

abbrev pub decreases-k_switch : goal.decreases-k_switch
decreases-k_switch l = 10 * (network_size l.f.now + network_size l.e.now + network_size l.t.now) + 6

abbrev pub decreases-p_switch : goal.decreases-p_switch
decreases-p_switch l = 10 * (networks_size l.fs.now + network_size l.e.now + network_size l.t.now) + 6

abbrev pub decreases-routed : goal.decreases-routed
decreases-routed l = 10 * nets_size l.members.now + 4

abbrev pub decreases-watched : goal.decreases-watched
decreases-watched l = 10 * network_size l.e.now + 4

abbrev pub decreases-rp_switch : goal.decreases-rp_switch
decreases-rp_switch l = 10 * (networks_size l.fs.now + network_size l.t.now) + 6

abbrev pub decreases-members : goal.decreases-members
decreases-members l = 10 * nets_size l.members.now + 2

abbrev pub decreases-next : goal.decreases-next
decreases-next l = 10 * network_size l.t.now + 4

abbrev pub decreases-child : goal.decreases-child
decreases-child l = 10 * net_size l.net.now + 2
