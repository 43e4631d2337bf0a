use Rattle.std.proofs.Common.{◌+◌, ◌*◌}
use Rattle.net_tree.specs.Network.{network_size, networks_size}
use Rattle.net_tree.proofs.Sizes.{net_size, nets_size}
use Rattle.step_core.proofs.lowering.+lower.Given as goal

abbrev pub decreases-lower_routed : goal.decreases-lower_routed
decreases-lower_routed l = 8 * (networks_size l.fs.now + network_size l.e.now + network_size l.t.now) + 5

abbrev pub decreases-lower_pair : goal.decreases-lower_pair
decreases-lower_pair l = 8 * (network_size l.f.now + network_size l.g.now) + 4

abbrev pub decreases-lower_freeze : goal.decreases-lower_freeze
decreases-lower_freeze l = 8 * (network_size l.f.now + network_size l.e.now + network_size l.t.now) + 4

abbrev pub decreases-lower_par : goal.decreases-lower_par
decreases-lower_par l = 8 * networks_size l.fs.now + 4

abbrev pub decreases-lower_behind_route : goal.decreases-lower_behind_route
decreases-lower_behind_route l = 8 * (networks_size l.fs.now + network_size l.e.now + network_size l.t.now) + 4

abbrev pub decreases-lower_first : goal.decreases-lower_first
decreases-lower_first l = 8 * network_size l.f.now + 3

abbrev pub decreases-lower_fed : goal.decreases-lower_fed
decreases-lower_fed l = 8 * network_size l.f.now + 3

abbrev pub decreases-lower_collection : goal.decreases-lower_collection
decreases-lower_collection l = 8 * (networks_size l.fs.now + network_size l.t.now) + 4

abbrev pub decreases-lower_two : goal.decreases-lower_two
decreases-lower_two l = 8 * (network_size l.f.now + network_size l.g.now) + 3

abbrev pub decreases-lower_all : goal.decreases-lower_all
decreases-lower_all l = 8 * networks_size l.fs.now + 3

abbrev pub decreases-lower_child : goal.decreases-lower_child
decreases-lower_child l = 8 * network_size l.f.now + 2

abbrev pub decreases-lower_members : goal.decreases-lower_members
decreases-lower_members l = 8 * nets_size l.fs.now + 2

abbrev pub decreases-lower : goal.decreases-lower
decreases-lower l = 8 * net_size l.net.now + 1
