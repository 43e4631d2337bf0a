use Rattle.std.proofs.Common.{◌≡◌, ◌↔◌, ◌+◌, ◌*◌, drop, map}
use Rattle.leaf_core.specs.Expression.{expressions_of, nodes_in}
use Rattle.leaf_core.specs.ExpressionView.{expression_of}
use Rattle.leaf_core.proofs.Sizes.{expr_nodes, exprs_nodes}
use Rattle.leaf_core.proofs.equal.+same.Given as goal

-- the elements to come are equal exactly where all are
abbrev pub invariant-same_parts-loop-i : goal.invariant-same_parts-loop-i
invariant-same_parts-loop-i l =
    (expressions_of (map expression_of (drop l.i l.all)) ≡ expressions_of (map expression_of (drop l.i l.others)))
    ↔ (expressions_of (map expression_of l.all) ≡ expressions_of (map expression_of l.others))

abbrev pub decreases-same_inside : goal.decreases-same_inside
decreases-same_inside l = 6 * expr_nodes l.a.now + 1

abbrev pub decreases-same_expr : goal.decreases-same_expr
decreases-same_expr l = 6 * expr_nodes l.a.now + 2

abbrev pub decreases-same_part : goal.decreases-same_part
decreases-same_part l = 6 * nodes_in l.a.now + 3

abbrev pub decreases-same_parts : goal.decreases-same_parts
decreases-same_parts l = 6 * exprs_nodes l.all.now + 3

abbrev pub decreases-same_two : goal.decreases-same_two
decreases-same_two l = 6 * (nodes_in l.a.now + nodes_in l.b.now) + 4

abbrev pub decreases-same_list : goal.decreases-same_list
decreases-same_list l = 6 * exprs_nodes l.all.now + 4

abbrev pub decreases-same_three : goal.decreases-same_three
decreases-same_three l = 6 * (nodes_in l.a.now + nodes_in l.b.now + nodes_in l.c.now) + 5
