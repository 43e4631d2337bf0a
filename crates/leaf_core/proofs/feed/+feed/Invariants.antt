use Rattle.std.proofs.Common.{◌≡◌, ◌+◌, ◌*◌, fold, drop, map}
use Rattle.leaf_core.specs.ExpressionView.{expression_of}
use Rattle.leaf_core.specs.Expression.{expressions_of}
use Rattle.leaf_core.specs.HashWrites.{expressions_writes}
use Rattle.leaf_core.proofs.Sizes.{expr_nodes, exprs_nodes}
use Rattle.leaf_core.proofs.feed.+feed.Given as goal

abbrev pub invariant-feed_all-loop-e : goal.invariant-feed_all-loop-e
invariant-feed_all-loop-e g l =
    fold g.H.Hasher.write l.state (expressions_writes (expressions_of (map expression_of (drop l.e-index l.e-items))))
    ≡ fold g.H.Hasher.write l.initial.state (expressions_writes (expressions_of (map expression_of l.e-items)))

abbrev pub decreases-feed_inside : goal.decreases-feed_inside
decreases-feed_inside g l = 6 * expr_nodes l.expr.now + 1

abbrev pub decreases-feed_expr : goal.decreases-feed_expr
decreases-feed_expr g l = 6 * expr_nodes l.expr.now + 2

abbrev pub decreases-feed_list : goal.decreases-feed_list
decreases-feed_list g l = 6 * exprs_nodes l.all.now + 4

abbrev pub decreases-feed_all : goal.decreases-feed_all
decreases-feed_all g l = 6 * exprs_nodes l.all.now + 3
