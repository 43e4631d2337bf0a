use Rattle.std.proofs.Common.{◌+◌, ◌*◌}
use Rattle.net_tree.specs.Network.{network_size, networks_size}
use Rattle.net_tree.proofs.Sizes.{net_size, nets_size}
use Rattle.code_fits.proofs.walk.+lay.Given as goal

abbrev pub decreases-lay : goal.decreases-lay
decreases-lay l = 16 * net_size l.net.now + 1

abbrev pub decreases-lay_collection : goal.decreases-lay_collection
decreases-lay_collection l = 16 * (networks_size l.fs.now + network_size l.t.now) + 8

abbrev pub decreases-lay_first : goal.decreases-lay_first
decreases-lay_first l = 16 * network_size l.f.now + 8

abbrev pub decreases-lay_frozen : goal.decreases-lay_frozen
decreases-lay_frozen l = 16 * (net_size l.rest.watch.now + net_size l.rest.over.now) + 8

abbrev pub decreases-lay_initial : goal.decreases-lay_initial
decreases-lay_initial l = 16 * network_size l.f.now + 8

abbrev pub decreases-lay_k_switch : goal.decreases-lay_k_switch
decreases-lay_k_switch l = 16 * (network_size l.f.now + network_size l.e.now + network_size l.t.now) + 12

abbrev pub decreases-lay_loop : goal.decreases-lay_loop
decreases-lay_loop l = 16 * network_size l.f.now + 8

abbrev pub decreases-lay_members : goal.decreases-lay_members
decreases-lay_members l = 16 * nets_size l.fs.now + 6

abbrev pub decreases-lay_p_switch : goal.decreases-lay_p_switch
decreases-lay_p_switch l = 16 * (networks_size l.fs.now + net_size l.rest.watch.now + net_size l.rest.over.now) + 12

abbrev pub decreases-lay_par : goal.decreases-lay_par
decreases-lay_par l = 16 * networks_size l.fs.now + 8

abbrev pub decreases-lay_part : goal.decreases-lay_part
decreases-lay_part l = 16 * net_size l.f.now + 2

abbrev pub decreases-lay_restart : goal.decreases-lay_restart
decreases-lay_restart l = 16 * (network_size l.f.now + network_size l.t.now) + 8

abbrev pub decreases-lay_seq : goal.decreases-lay_seq
decreases-lay_seq l = 16 * (network_size l.f.now + network_size l.g.now) + 8

abbrev pub decreases-lay_switch : goal.decreases-lay_switch
decreases-lay_switch l = 16 * (network_size l.f.now + network_size l.t.now) + 8

abbrev pub decreases-part : goal.decreases-part
decreases-part l = 16 * net_size l.f.now + 3

abbrev pub decreases-resumer : goal.decreases-resumer
decreases-resumer l = 16 * net_size l.t.now + 5

abbrev pub decreases-taker : goal.decreases-taker
decreases-taker l = 16 * net_size l.t.now + 4
