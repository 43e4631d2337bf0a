use Rattle.std.proofs.Common.{◌≡◌, ◌+◌, ◌*◌, ◌++◌, List, ℕ, drop, map}
use Rattle.sample_core.specs.TypeView.{type_of}
use Rattle.leaf_core.specs.Expression.{nodes_in, expressions_of}
use Rattle.leaf_core.specs.ExpressionView.{expression_of}
use Rattle.leaf_core.proofs.Sizes.{expr_nodes, exprs_nodes}
use Rattle.leaf_code.specs.Running.{Step}
use Rattle.leaf_code.specs.CodeOf.{emit_all}
use Rattle.leaf_code.specs.CodeView.{steps_in}
use Rattle.leaf_code.proofs.emit.+emit.Given as goal

-- the elements to come add the rest of the steps and of the registers
abbrev pub invariant-emit_elements-loop-e : goal.invariant-emit_elements-loop-e
invariant-emit_elements-loop-e l =
    let rest : List Step × List ℕ = emit_all (map type_of l.around.params.now) (type_of l.around.input.now)
    (expressions_of (map expression_of (drop l.e-index l.all))) l.x (steps_in l.steps.items) in
    let whole : List Step × List ℕ = emit_all (map type_of l.around.params.now) (type_of l.around.input.now)
    (expressions_of (map expression_of l.all)) l.x (steps_in l.initial.steps.items) in
    (rest.0 ≡ whole.0) × (l.registers.items ++ rest.1 ≡ l.initial.registers.items ++ whole.1)

abbrev pub decreases-emit : goal.decreases-emit
decreases-emit l = 8 * expr_nodes l.e.now + 1

abbrev pub decreases-emit_choice : goal.decreases-emit_choice
decreases-emit_choice l = 8 * (nodes_in l.c.now + nodes_in l.a.now + nodes_in l.b.now) + 4

abbrev pub decreases-emit_elements : goal.decreases-emit_elements
decreases-emit_elements l = 8 * exprs_nodes (map expression_of l.all.now) + 2

abbrev pub decreases-emit_event : goal.decreases-emit_event
decreases-emit_event l = 8 * nodes_in l.a.now + 3

abbrev pub decreases-emit_left : goal.decreases-emit_left
decreases-emit_left l = 8 * nodes_in l.a.now + 3

abbrev pub decreases-emit_len : goal.decreases-emit_len
decreases-emit_len l = 8 * nodes_in l.a.now + 3

abbrev pub decreases-emit_list : goal.decreases-emit_list
decreases-emit_list l = 8 * exprs_nodes l.all.now + 4

abbrev pub decreases-emit_neg : goal.decreases-emit_neg
decreases-emit_neg l = 8 * nodes_in l.a.now + 3

abbrev pub decreases-emit_not : goal.decreases-emit_not
decreases-emit_not l = 8 * nodes_in l.a.now + 3

abbrev pub decreases-emit_nth : goal.decreases-emit_nth
decreases-emit_nth l = 8 * (nodes_in l.a.now + nodes_in l.i.now + nodes_in l.d.now) + 4

abbrev pub decreases-emit_on : goal.decreases-emit_on
decreases-emit_on l = 8 * (nodes_in l.a.now + nodes_in l.d.now + nodes_in l.b.now) + 4

abbrev pub decreases-emit_pair : goal.decreases-emit_pair
decreases-emit_pair l = 8 * (nodes_in l.a.now + nodes_in l.b.now) + 4

abbrev pub decreases-emit_part : goal.decreases-emit_part
decreases-emit_part l = 8 * nodes_in l.a.now + 2

abbrev pub decreases-emit_right : goal.decreases-emit_right
decreases-emit_right l = 8 * nodes_in l.a.now + 3

abbrev pub decreases-emit_then : goal.decreases-emit_then
decreases-emit_then l = 8 * (nodes_in l.f.now + nodes_in l.g.now) + 3

abbrev pub decreases-emit_two : goal.decreases-emit_two
decreases-emit_two l = 8 * (nodes_in l.a.now + nodes_in l.b.now) + 3
