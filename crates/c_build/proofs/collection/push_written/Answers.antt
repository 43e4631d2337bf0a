use Rattle.std.proofs.Common.{◌∙◌}
use Rattle.std.proofs.lemmas.Result.{IfOk-weaker}
use Rattle.c_build.proofs.collection.push_written.Goals as goal

pub returns : goal.returns
returns c =
    IfOk-weaker c.push_turn_end.result _ _ (λ _ e3. λ n Ps Os B counts is_answer.
    let e1 = c.in_ok-push_turn.ensures n Ps Os counts in
    let e2 = c.in_ok-push_scope.ensures in
    e3 n Ps Os counts ∙ rw (e2, e1, counts.params, counts.olds, is_answer)) c.push_turn_end.ensures
