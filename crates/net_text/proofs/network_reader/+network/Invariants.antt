use Rattle.std.proofs.Common.{◌≡◌, ◌+◌, ◌*◌, length, map}
use Rattle.leaf_expr.specs.Language.{places}
use Rattle.leaf_expr.proofs.ItemSteps.{with_front}
use Rattle.net_tree.specs.NetworkView.{tree_of}
use Rattle.net_text.specs.Grammar.{network_sort}
use Rattle.net_text.specs.ReadNet.{from_byte, parts_at}
use Rattle.net_text.proofs.network_reader.+network.Given as goal

-- the networks so far, and those that follow, are all
abbrev pub invariant-networks_at-loop-end : goal.invariant-networks_at-loop-end
invariant-networks_at-loop-end l =
    with_front (map tree_of l.all.items) (parts_at (places network_sort) (λ fs. fs) l.text l.room l.next)
    ≡ parts_at (places network_sort) (λ fs. fs) l.text l.room l.at

abbrev pub decreases-networks_at-loop-end : goal.decreases-networks_at-loop-end
decreases-networks_at-loop-end l = length (from_byte l.next l.text)

abbrev pub decreases-network_at : goal.decreases-network_at
decreases-network_at l = 8 * l.room + 1

abbrev pub decreases-form_at : goal.decreases-form_at
decreases-form_at l = 8 * l.room + 8

abbrev pub decreases-parts_at : goal.decreases-parts_at
decreases-parts_at l = 8 * l.room + 7

abbrev pub decreases-child_at : goal.decreases-child_at
decreases-child_at l = 8 * l.room + 2

abbrev pub decreases-last_child_at : goal.decreases-last_child_at
decreases-last_child_at l = 8 * l.room + 3

abbrev pub decreases-last_two_at : goal.decreases-last_two_at
decreases-last_two_at l = 8 * l.room + 4

abbrev pub decreases-last_three_at : goal.decreases-last_three_at
decreases-last_three_at l = 8 * l.room + 5

abbrev pub decreases-unary_at : goal.decreases-unary_at
decreases-unary_at l = 8 * l.room + 5

abbrev pub decreases-binary_at : goal.decreases-binary_at
decreases-binary_at l = 8 * l.room + 5

abbrev pub decreases-k_switch_at : goal.decreases-k_switch_at
decreases-k_switch_at l = 8 * l.room + 5

abbrev pub decreases-last_fed_at : goal.decreases-last_fed_at
decreases-last_fed_at l = 8 * l.room + 4

abbrev pub decreases-fed_at : goal.decreases-fed_at
decreases-fed_at l = 8 * l.room + 5

abbrev pub decreases-par_at : goal.decreases-par_at
decreases-par_at l = 8 * l.room + 5

abbrev pub decreases-p_switch_at : goal.decreases-p_switch_at
decreases-p_switch_at l = 8 * l.room + 6

abbrev pub decreases-rp_switch_at : goal.decreases-rp_switch_at
decreases-rp_switch_at l = 8 * l.room + 5

abbrev pub decreases-col_at : goal.decreases-col_at
decreases-col_at l = 8 * l.room + 1

abbrev pub decreases-col_form_at : goal.decreases-col_form_at
decreases-col_form_at l = 8 * l.room + 4

abbrev pub decreases-members_at : goal.decreases-members_at
decreases-members_at l = 8 * l.room + 3

abbrev pub decreases-networks_at : goal.decreases-networks_at
decreases-networks_at l = 8 * l.room + 2
