use Rattle.std.proofs.Common.{◌+◌, ◌*◌}
use Rattle.net_tree.specs.Network.{network_size, networks_size}
use Rattle.net_tree.proofs.Sizes.{net_size, nets_size}
use Rattle.net_code.proofs.emit.+emit.Given as goal

abbrev pub decreases-emit_all : goal.decreases-emit_all
decreases-emit_all l = 8 * networks_size l.fs.now + 3

abbrev pub decreases-emit_collection : goal.decreases-emit_collection
decreases-emit_collection l = 8 * (networks_size l.fs.now + network_size l.t.now) + 4

abbrev pub decreases-emit_first : goal.decreases-emit_first
decreases-emit_first l = 8 * network_size l.f.now + 4

abbrev pub decreases-emit_in : goal.decreases-emit_in
decreases-emit_in l = 8 * network_size l.f.now + 4

abbrev pub decreases-emit_k_switch : goal.decreases-emit_k_switch
decreases-emit_k_switch l = 8 * (network_size l.f.now + network_size l.e.now + network_size l.t.now) + 4

abbrev pub decreases-emit_late_restart : goal.decreases-emit_late_restart
decreases-emit_late_restart l = 8 * (network_size l.f.now + network_size l.t.now) + 4

abbrev pub decreases-emit_late_switch : goal.decreases-emit_late_switch
decreases-emit_late_switch l = 8 * (network_size l.f.now + network_size l.t.now) + 4

abbrev pub decreases-emit_loop : goal.decreases-emit_loop
decreases-emit_loop l = 8 * network_size l.f.now + 4

abbrev pub decreases-emit_members : goal.decreases-emit_members
decreases-emit_members l = 8 * nets_size l.fs.now + 2

abbrev pub decreases-emit_net : goal.decreases-emit_net
decreases-emit_net l = 8 * net_size l.net.now + 1

abbrev pub decreases-emit_out : goal.decreases-emit_out
decreases-emit_out l = 8 * network_size l.f.now + 4

abbrev pub decreases-emit_p_switch : goal.decreases-emit_p_switch
decreases-emit_p_switch l = 8 * (networks_size l.fs.now + network_size l.e.now + network_size l.t.now) + 4

abbrev pub decreases-emit_par : goal.decreases-emit_par
decreases-emit_par l = 8 * networks_size l.fs.now + 4

abbrev pub decreases-emit_part : goal.decreases-emit_part
decreases-emit_part l = 8 * network_size l.f.now + 2

abbrev pub decreases-emit_restart : goal.decreases-emit_restart
decreases-emit_restart l = 8 * (network_size l.f.now + network_size l.t.now) + 4

abbrev pub decreases-emit_resumer : goal.decreases-emit_resumer
decreases-emit_resumer l = 8 * network_size l.t.now + 3

abbrev pub decreases-emit_seq : goal.decreases-emit_seq
decreases-emit_seq l = 8 * (network_size l.f.now + network_size l.g.now) + 4

abbrev pub decreases-emit_switch : goal.decreases-emit_switch
decreases-emit_switch l = 8 * (network_size l.f.now + network_size l.t.now) + 4

abbrev pub decreases-emit_taker : goal.decreases-emit_taker
decreases-emit_taker l = 8 * network_size l.t.now + 3
