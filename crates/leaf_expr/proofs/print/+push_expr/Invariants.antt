use Rattle.std.proofs.Common.{◌≡◌, ◌+◌, ◌*◌, ◌++◌, string_bytes, drop, map}
use Rattle.sample_core.specs.Adding.{Extends}
use Rattle.leaf_core.specs.Expression.{nodes_in, expressions_of}
use Rattle.leaf_expr.specs.Sexpr.{sexprs_spelling}
use Rattle.leaf_expr.specs.Printing.{expression_sexprs}
use Rattle.leaf_core.specs.ExpressionView.{expression_of}
use Rattle.leaf_core.proofs.Sizes.{expr_nodes, exprs_nodes}
use Rattle.leaf_expr.proofs.print.+push_expr.Given as goal

-- the text begins as it did, and what stands there and the spelling of the elements to come is the whole
abbrev pub invariant-push_elements-loop-e : goal.invariant-push_elements-loop-e
invariant-push_elements-loop-e l =
    Extends (string_bytes l.initial.text) (string_bytes l.text)
    × (string_bytes l.text ++ sexprs_spelling (expression_sexprs (expressions_of (map expression_of (drop l.e-index l.e-items)))) ≡ string_bytes l.initial.text
    ++ sexprs_spelling (expression_sexprs (expressions_of (map expression_of l.e-items))))

abbrev pub decreases-push_three : goal.decreases-push_three
decreases-push_three l = 5 * (nodes_in l.a.now + nodes_in l.b.now + nodes_in l.c.now) + 4

abbrev pub decreases-push_two : goal.decreases-push_two
decreases-push_two l = 5 * (nodes_in l.a.now + nodes_in l.b.now) + 4

abbrev pub decreases-push_expr : goal.decreases-push_expr
decreases-push_expr l = 5 * expr_nodes l.expr.now + 1

abbrev pub decreases-push_next_expr : goal.decreases-push_next_expr
decreases-push_next_expr l = 5 * expr_nodes l.expr.now + 2

abbrev pub decreases-push_last_expr : goal.decreases-push_last_expr
decreases-push_last_expr l = 5 * expr_nodes l.expr.now + 3

abbrev pub decreases-push_one : goal.decreases-push_one
decreases-push_one l = 5 * nodes_in l.a.now + 4

abbrev pub decreases-push_list : goal.decreases-push_list
decreases-push_list l = 5 * exprs_nodes l.all.now + 4

abbrev pub decreases-push_elements : goal.decreases-push_elements
decreases-push_elements l = 5 * exprs_nodes l.all.now + 3
