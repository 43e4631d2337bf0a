use Rattle.std.proofs.Common.{◌≡◌, ◌+◌, ◌*◌, length, map}
use Rattle.leaf_expr.specs.ReadText.{items_at}
use Rattle.leaf_core.specs.ExpressionView.{expression_of}
use Rattle.leaf_expr.specs.Token.{tokens_from}
use Rattle.leaf_expr.proofs.ItemSteps.{with_front}
use Rattle.leaf_expr.proofs.expr_reader.+read_expression.Given as goal

-- the elements so far, and those that follow, are all
abbrev pub invariant-items-loop-end : goal.invariant-items-loop-end
invariant-items-loop-end l = with_front (map expression_of l.all.items) (items_at l.text l.room l.next) ≡ items_at l.text l.room l.at

abbrev pub decreases-read_expression : goal.decreases-read_expression
decreases-read_expression l = 6 * l.room + 1

abbrev pub decreases-form : goal.decreases-form
decreases-form l = 6 * l.room + 6

abbrev pub decreases-parts : goal.decreases-parts
decreases-parts l = 6 * l.room + 5

abbrev pub decreases-part : goal.decreases-part
decreases-part l = 6 * l.room + 2

abbrev pub decreases-last_two : goal.decreases-last_two
decreases-last_two l = 6 * l.room + 3

abbrev pub decreases-elements : goal.decreases-elements
decreases-elements l = 6 * l.room + 3

abbrev pub decreases-unary : goal.decreases-unary
decreases-unary l = 6 * l.room + 4

abbrev pub decreases-binary : goal.decreases-binary
decreases-binary l = 6 * l.room + 4

abbrev pub decreases-ternary : goal.decreases-ternary
decreases-ternary l = 6 * l.room + 4

abbrev pub decreases-typed : goal.decreases-typed
decreases-typed l = 6 * l.room + 4

abbrev pub decreases-list : goal.decreases-list
decreases-list l = 6 * l.room + 4

abbrev pub decreases-items : goal.decreases-items
decreases-items l = 6 * l.room + 2

abbrev pub decreases-items-loop-end : goal.decreases-items-loop-end
decreases-items-loop-end l = length (tokens_from l.next l.text)
