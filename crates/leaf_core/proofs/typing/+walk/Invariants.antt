use Rattle.std.proofs.Common.{◌≡◌, ◌+◌, ◌*◌, drop, map}
use Rattle.sample_core.specs.TypeView.{type_of}
use Rattle.leaf_core.specs.Expression.{expressions_of, nodes_in}
use Rattle.leaf_core.specs.ExpressionView.{expression_of}
use Rattle.leaf_core.specs.ExpressionCheck.{elements_walk}
use Rattle.leaf_core.proofs.Sizes.{expr_nodes, exprs_nodes}
use Rattle.leaf_core.proofs.typing.+walk.Given as goal

-- the walk over the elements to come answers as the one over all
abbrev pub invariant-walk_elements-loop-part : goal.invariant-walk_elements-loop-part
invariant-walk_elements-loop-part l =
    elements_walk (map type_of l.scope.params.now) (type_of l.scope.input.now) (type_of l.element)
    (expressions_of (map expression_of (drop l.part-index l.part-items)))
    ≡ elements_walk (map type_of l.scope.params.now) (type_of l.scope.input.now) (type_of l.element) (expressions_of (map expression_of l.part-items))

abbrev pub decreases-walk : goal.decreases-walk
decreases-walk l = 6 * expr_nodes l.expr.now + 1

abbrev pub decreases-walk_wanted : goal.decreases-walk_wanted
decreases-walk_wanted l = 6 * expr_nodes l.expr.now + 2

abbrev pub decreases-walk_at : goal.decreases-walk_at
decreases-walk_at l = 6 * expr_nodes l.expr.now + 2

abbrev pub decreases-walk_one : goal.decreases-walk_one
decreases-walk_one l = 6 * nodes_in l.a.now + 3

abbrev pub decreases-walk_branches : goal.decreases-walk_branches
decreases-walk_branches l = 6 * (nodes_in l.a.now + nodes_in l.b.now) + 3

abbrev pub decreases-walk_child : goal.decreases-walk_child
decreases-walk_child l = 6 * nodes_in l.part.now + 3

abbrev pub decreases-wanted_at : goal.decreases-wanted_at
decreases-wanted_at l = 6 * expr_nodes l.expr.now + 3

abbrev pub decreases-walk_elements : goal.decreases-walk_elements
decreases-walk_elements l = 6 * exprs_nodes l.all.now + 3

abbrev pub decreases-walk_pair : goal.decreases-walk_pair
decreases-walk_pair l = 6 * (nodes_in l.a.now + nodes_in l.b.now) + 4

abbrev pub decreases-walk_part : goal.decreases-walk_part
decreases-walk_part l = 6 * nodes_in l.e.now + 4

abbrev pub decreases-walk_then : goal.decreases-walk_then
decreases-walk_then l = 6 * (nodes_in l.f.now + nodes_in l.g.now) + 4

abbrev pub decreases-walk_two : goal.decreases-walk_two
decreases-walk_two l = 6 * (nodes_in l.a.now + nodes_in l.b.now) + 4

abbrev pub decreases-walk_equal : goal.decreases-walk_equal
decreases-walk_equal l = 6 * (nodes_in l.a.now + nodes_in l.b.now) + 4

abbrev pub decreases-walk_if : goal.decreases-walk_if
decreases-walk_if l = 6 * (nodes_in l.c.now + nodes_in l.a.now + nodes_in l.b.now) + 4

abbrev pub decreases-walk_event : goal.decreases-walk_event
decreases-walk_event l = 6 * nodes_in l.e.now + 4

abbrev pub decreases-walk_body : goal.decreases-walk_body
decreases-walk_body l = 6 * nodes_in l.b.now + 4

abbrev pub decreases-walk_list : goal.decreases-walk_list
decreases-walk_list l = 6 * exprs_nodes l.all.now + 4

abbrev pub decreases-walk_element : goal.decreases-walk_element
decreases-walk_element l = 6 * (nodes_in l.i.now + nodes_in l.d.now) + 4

abbrev pub decreases-walk_len : goal.decreases-walk_len
decreases-walk_len l = 6 * nodes_in l.e.now + 4

abbrev pub decreases-walk_default : goal.decreases-walk_default
decreases-walk_default l = 6 * (nodes_in l.d.now + nodes_in l.b.now) + 5

abbrev pub decreases-walk_nth_of : goal.decreases-walk_nth_of
decreases-walk_nth_of l = 6 * (nodes_in l.i.now + nodes_in l.d.now) + 5

abbrev pub decreases-walk_on : goal.decreases-walk_on
decreases-walk_on l = 6 * (nodes_in l.e.now + nodes_in l.d.now + nodes_in l.b.now) + 6

abbrev pub decreases-walk_on_event : goal.decreases-walk_on_event
decreases-walk_on_event l = 6 * (nodes_in l.d.now + nodes_in l.b.now) + 6

abbrev pub decreases-walk_nth : goal.decreases-walk_nth
decreases-walk_nth l = 6 * (nodes_in l.e.now + nodes_in l.i.now + nodes_in l.d.now) + 6
