use Rattle.std.proofs.Common.{◌≡◌, ◌+◌, ◌*◌, ◌≤◌, ◌↔◌, drop, map}
use Rattle.leaf_core.specs.Expression.{expressions_of, heights_of, nodes_in_all}
use Rattle.leaf_core.specs.ExpressionView.{expression_of}
use Rattle.leaf_core.proofs.limits.+left.Given as goal

-- all are low enough exactly where those to come are; what the elements took, and what those to come will take
abbrev pub invariant-nodes_left_of_all-loop-element : goal.invariant-nodes_left_of_all-loop-element
invariant-nodes_left_of_all-loop-element l =
    ((heights_of (expressions_of (map expression_of (drop l.element-index l.element-items))) ≤ l.height)
    ↔ (heights_of (expressions_of (map expression_of l.element-items)) ≤ l.height))
    × (nodes_in_all (expressions_of (map expression_of l.element-items))
    + l.left ≡ nodes_in_all (expressions_of (map expression_of (drop l.element-index l.element-items))) + l.initial.left)

abbrev pub decreases-expr_nodes_left : goal.decreases-expr_nodes_left
decreases-expr_nodes_left l = 3 * l.height + 1

abbrev pub decreases-nodes_left_of_all : goal.decreases-nodes_left_of_all
decreases-nodes_left_of_all l = 3 * l.height + 2

abbrev pub decreases-nodes_left_of_two : goal.decreases-nodes_left_of_two
decreases-nodes_left_of_two l = 3 * l.height + 2

abbrev pub decreases-nodes_left_of_three : goal.decreases-nodes_left_of_three
decreases-nodes_left_of_three l = 3 * l.height + 3
