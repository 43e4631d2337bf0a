use Rattle.std.proofs.Common.{◌+◌, ◌*◌}
use Rattle.net_tree.specs.Network.{network_size, networks_size}
use Rattle.net_tree.specs.NetworkView.{tree_of, tree, trees}
use Rattle.net_syntax.proofs.output.+output.Given as goal

abbrev pub decreases-output_in : goal.decreases-output_in
decreases-output_in l = 4 * network_size (tree_of l.net.now)

abbrev pub decreases-output_on_left : goal.decreases-output_on_left
decreases-output_on_left l = 4 * network_size (tree l.f.now) + 1

abbrev pub decreases-output_fed_back : goal.decreases-output_fed_back
decreases-output_fed_back l = 4 * network_size (tree l.f.now) + 1

abbrev pub decreases-first_output : goal.decreases-first_output
decreases-first_output l = 4 * networks_size (trees l.fs.now) + 1

abbrev pub decreases-output_of_collection : goal.decreases-output_of_collection
decreases-output_of_collection l = 4 * networks_size (trees l.fs.now) + 2

abbrev pub decreases-routed_types : goal.decreases-routed_types
decreases-routed_types l = 4 * networks_size (trees l.fs.now) + 2
