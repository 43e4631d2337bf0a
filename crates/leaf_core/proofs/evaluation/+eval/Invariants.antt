use Rattle.std.proofs.Common.{◌≡◌, ◌+◌, ◌*◌, ◌++◌, drop, map}
use Rattle.sample_core.specs.ValueView.{datum_of}
use Rattle.leaf_core.specs.Expression.{expressions_of, nodes_in}
use Rattle.leaf_core.specs.ExpressionView.{expression_of}
use Rattle.leaf_core.specs.ScopeView.{values_in}
use Rattle.leaf_core.proofs.Sizes.{expr_nodes, exprs_nodes}
use Rattle.leaf_core.proofs.evaluation.+eval.Given as goal

-- the values so far, and those of the elements to come, are those of all
abbrev pub invariant-eval_elements-loop-element : goal.invariant-eval_elements-loop-element
invariant-eval_elements-loop-element l =
    map datum_of l.values.items ++ values_in (expressions_of (map expression_of (drop l.element-index l.element-items))) l.scope
    ≡ values_in (expressions_of (map expression_of l.element-items)) l.scope

abbrev pub decreases-eval_if : goal.decreases-eval_if
decreases-eval_if l = 16 * (nodes_in l.c.now + nodes_in l.a.now + nodes_in l.b.now) + 6

abbrev pub decreases-eval_on : goal.decreases-eval_on
decreases-eval_on l = 16 * (nodes_in l.e.now + nodes_in l.d.now + nodes_in l.b.now) + 5

abbrev pub decreases-eval_nth : goal.decreases-eval_nth
decreases-eval_nth l = 16 * (nodes_in l.e.now + nodes_in l.i.now + nodes_in l.d.now) + 8

abbrev pub decreases-nth_number : goal.decreases-nth_number
decreases-nth_number l = 16 * (nodes_in l.list.now + nodes_in l.i.now + nodes_in l.d.now) + 8

abbrev pub decreases-eval_pair : goal.decreases-eval_pair
decreases-eval_pair l = 16 * (nodes_in l.a.now + nodes_in l.b.now) + 4

abbrev pub decreases-eval_new_pair : goal.decreases-eval_new_pair
decreases-eval_new_pair l = 16 * (nodes_in l.a.now + nodes_in l.b.now) + 3

abbrev pub decreases-eval_both : goal.decreases-eval_both
decreases-eval_both l = 16 * (nodes_in l.a.now + nodes_in l.b.now) + 2

abbrev pub decreases-eval_then : goal.decreases-eval_then
decreases-eval_then l = 16 * (nodes_in l.f.now + nodes_in l.g.now) + 4

abbrev pub decreases-eval_on_event : goal.decreases-eval_on_event
decreases-eval_on_event l = 16 * (nodes_in l.d.now + nodes_in l.b.now) + 4

abbrev pub decreases-eval_element : goal.decreases-eval_element
decreases-eval_element l = 16 * (nodes_in l.i.now + nodes_in l.d.now) + 7

abbrev pub decreases-eval_sum : goal.decreases-eval_sum
decreases-eval_sum l = 16 * (nodes_in l.a.now + nodes_in l.b.now) + 7

abbrev pub decreases-eval_less : goal.decreases-eval_less
decreases-eval_less l = 16 * (nodes_in l.a.now + nodes_in l.b.now) + 7

abbrev pub decreases-eval_equal : goal.decreases-eval_equal
decreases-eval_equal l = 16 * (nodes_in l.a.now + nodes_in l.b.now) + 5

abbrev pub decreases-eval_logic : goal.decreases-eval_logic
decreases-eval_logic l = 16 * (nodes_in l.a.now + nodes_in l.b.now) + 6

abbrev pub decreases-eval_into : goal.decreases-eval_into
decreases-eval_into l = 16 * expr_nodes l.expr.now + 1

abbrev pub decreases-eval_part : goal.decreases-eval_part
decreases-eval_part l = 16 * nodes_in l.e.now + 4

abbrev pub decreases-eval_part_off : goal.decreases-eval_part_off
decreases-eval_part_off l = 16 * nodes_in l.e.now + 3

abbrev pub decreases-eval_off : goal.decreases-eval_off
decreases-eval_off l = 16 * nodes_in l.e.now + 2

abbrev pub decreases-look : goal.decreases-look
decreases-look l = 16 * nodes_in l.expr.now + 3

abbrev pub decreases-eval_made : goal.decreases-eval_made
decreases-eval_made l = 16 * nodes_in l.expr.now + 2

abbrev pub decreases-eval_at : goal.decreases-eval_at
decreases-eval_at l = 16 * nodes_in l.e.now + 2

abbrev pub decreases-eval_event : goal.decreases-eval_event
decreases-eval_event l = 16 * nodes_in l.e.now + 3

abbrev pub decreases-eval_new_event : goal.decreases-eval_new_event
decreases-eval_new_event l = 16 * nodes_in l.e.now + 2

abbrev pub decreases-eval_body : goal.decreases-eval_body
decreases-eval_body l = 16 * nodes_in l.b.now + 3

abbrev pub decreases-eval_elements : goal.decreases-eval_elements
decreases-eval_elements l = 16 * exprs_nodes l.elements.now + 2

abbrev pub decreases-eval_number : goal.decreases-eval_number
decreases-eval_number l = 16 * nodes_in l.child.now + 6

abbrev pub decreases-far_number : goal.decreases-far_number
decreases-far_number l = 16 * nodes_in l.child.now + 5

abbrev pub decreases-look_number : goal.decreases-look_number
decreases-look_number l = 16 * nodes_in l.part.now + 4

abbrev pub decreases-eval_neg : goal.decreases-eval_neg
decreases-eval_neg l = 16 * nodes_in l.a.now + 7

abbrev pub decreases-eval_len : goal.decreases-eval_len
decreases-eval_len l = 16 * nodes_in l.e.now + 4

abbrev pub decreases-eval_truth : goal.decreases-eval_truth
decreases-eval_truth l = 16 * nodes_in l.child.now + 5

abbrev pub decreases-look_truth : goal.decreases-look_truth
decreases-look_truth l = 16 * nodes_in l.part.now + 4

abbrev pub decreases-eval_equal_to : goal.decreases-eval_equal_to
decreases-eval_equal_to l = 16 * nodes_in l.part.now + 4

abbrev pub decreases-eval_not : goal.decreases-eval_not
decreases-eval_not l = 16 * nodes_in l.a.now + 6
