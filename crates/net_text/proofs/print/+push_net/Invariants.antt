use Rattle.std.proofs.Common.{◌≡◌, ◌+◌, ◌*◌, ◌++◌, string_bytes, drop}
use Rattle.sample_core.specs.Adding.{Extends}
use Rattle.leaf_core.specs.ExpressionView.{expression_of}
use Rattle.leaf_expr.specs.Sexpr.{sexprs_spelling}
use Rattle.net_tree.specs.Network.{network_size, networks_size, map_networks}
use Rattle.net_tree.specs.NetworkView.{members_of}
use Rattle.net_text.specs.Printing.{network_sexprs}
use Rattle.net_tree.proofs.Sizes.{net_size}
use Rattle.net_text.proofs.print.+push_net.Given as goal

-- the text begins as it did, and what stands there and the spelling of the members to come is the whole
abbrev pub invariant-push_members-loop-net : goal.invariant-push_members-loop-net
invariant-push_members-loop-net l =
    Extends (string_bytes l.initial.text) (string_bytes l.text)
    × (string_bytes l.text ++ sexprs_spelling (network_sexprs (map_networks expression_of (members_of (drop l.net-index l.net-items))))
    ≡ string_bytes l.initial.text ++ sexprs_spelling (network_sexprs (map_networks expression_of (members_of l.net-items))))

abbrev pub decreases-push_net : goal.decreases-push_net
decreases-push_net l = 5 * net_size l.net.now + 1

abbrev pub decreases-push_next : goal.decreases-push_next
decreases-push_next l = 5 * net_size l.net.now + 2

abbrev pub decreases-push_last : goal.decreases-push_last
decreases-push_last l = 5 * network_size l.f.now + 3

abbrev pub decreases-push_members : goal.decreases-push_members
decreases-push_members l = 5 * networks_size l.all.now + 3

abbrev pub decreases-push_last_two : goal.decreases-push_last_two
decreases-push_last_two l = 5 * (network_size l.f.now + network_size l.g.now) + 4

abbrev pub decreases-push_one : goal.decreases-push_one
decreases-push_one l = 5 * network_size l.f.now + 4

abbrev pub decreases-push_last_fed : goal.decreases-push_last_fed
decreases-push_last_fed l = 5 * network_size l.f.now + 4

abbrev pub decreases-push_fed : goal.decreases-push_fed
decreases-push_fed l = 5 * network_size l.f.now + 5

abbrev pub decreases-push_rp_switch : goal.decreases-push_rp_switch
decreases-push_rp_switch l = 5 * (networks_size l.all.now + network_size l.t.now) + 5

abbrev pub decreases-push_par : goal.decreases-push_par
decreases-push_par l = 5 * networks_size l.all.now + 4

abbrev pub decreases-push_col : goal.decreases-push_col
decreases-push_col l = 5 * networks_size l.all.now + 4

abbrev pub decreases-push_two : goal.decreases-push_two
decreases-push_two l = 5 * (network_size l.f.now + network_size l.g.now) + 5

abbrev pub decreases-push_k_switch : goal.decreases-push_k_switch
decreases-push_k_switch l = 5 * (network_size l.f.now + network_size l.e.now + network_size l.t.now) + 5

abbrev pub decreases-push_p_switch : goal.decreases-push_p_switch
decreases-push_p_switch l = 5 * (networks_size l.all.now + network_size l.e.now + network_size l.t.now) + 5
