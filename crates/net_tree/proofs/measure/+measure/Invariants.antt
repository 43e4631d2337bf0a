use Rattle.std.proofs.Common.{◌+◌, ◌*◌}
use Rattle.net_tree.specs.Network.{network_size, networks_size}
use Rattle.net_tree.proofs.Sizes.{net_size, nets_size}
use Rattle.net_tree.proofs.measure.+measure.Given as goal

abbrev pub decreases-measure_net : goal.decreases-measure_net
decreases-measure_net l = 4 * net_size l.net.now + 1

abbrev pub decreases-measure_one : goal.decreases-measure_one
decreases-measure_one l = 4 * network_size l.f.now + 2

abbrev pub decreases-measure_two : goal.decreases-measure_two
decreases-measure_two l = 4 * (network_size l.f.now + network_size l.g.now) + 3

abbrev pub decreases-measure_late : goal.decreases-measure_late
decreases-measure_late l = 4 * (network_size l.f.now + network_size l.t.now) + 3

abbrev pub decreases-measure_all : goal.decreases-measure_all
decreases-measure_all l = 4 * networks_size l.fs.now + 3

abbrev pub decreases-measure_freeze : goal.decreases-measure_freeze
decreases-measure_freeze l = 4 * (network_size l.f.now + network_size l.e.now + network_size l.t.now) + 3

abbrev pub decreases-measure_freeze_all : goal.decreases-measure_freeze_all
decreases-measure_freeze_all l = 4 * (networks_size l.fs.now + network_size l.e.now + network_size l.t.now) + 3

abbrev pub decreases-measure_collection : goal.decreases-measure_collection
decreases-measure_collection l = 4 * (networks_size l.fs.now + network_size l.t.now) + 3

abbrev pub decreases-measure_under : goal.decreases-measure_under
decreases-measure_under l = 4 * network_size l.t.now + 2

abbrev pub decreases-measure_members : goal.decreases-measure_members
decreases-measure_members l = 4 * nets_size l.fs.now + 2
