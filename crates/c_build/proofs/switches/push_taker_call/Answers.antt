use Rattle.std.proofs.lemmas.Result.{IfOk-weaker}
use Rattle.c_build.proofs.switches.push_taker_call.Goals as goal

pub returns : goal.returns
returns c =
    IfOk-weaker c.add-2.result _ _ (λ _ e3. λ n Ps Os B e counts is_answer is_step.
    let h2 = rw c.in_ok-add.ensures at (c.in_ok-push_value_scope.ensures n Ps Os counts) in
    let h3 = rw h2 at e3 in
    rw (h3, is_step, is_answer)) c.add-2.ensures
