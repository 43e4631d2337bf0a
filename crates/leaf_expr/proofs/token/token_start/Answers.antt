use Rattle.std.proofs.Common.{◌∙◌, sym}
use Rattle.leaf_expr.proofs.TokenSteps.{comment_next, blank_next}
use Rattle.leaf_expr.proofs.token.token_start.Goals as goal
use Rattle.leaf_expr.proofs.token.token_start.Goals.{then-in_comment, else-in_comment+else-begins_token}

pub loop-i-preserved : goal.loop-i-preserved
loop-i-preserved c = elim c.if-in_comment.branch [
  | then-in_comment w ↦ comment_next c.loop-i.i c.args.text.now _ _ c.loop-i-test.true w.if-in_comment.true w.in_comment-is ∙ c.loop-i.invariant
  | else-in_comment+else-begins_token w ↦ blank_next c.loop-i.i c.args.text.now _ _ c.loop-i-test.true w.if-in_comment.false (sym w.begins_token.ensures
      ∙ w.if-begins_token.false) w.in_comment-is ∙ c.loop-i.invariant
]
