use Rattle.std.proofs.Common.{◌∙◌, append_assoc}
use Rattle.std.proofs.lemmas.Result.{IfOk-weaker}
use Rattle.c_build.proofs.freezing.push_resumer_call.Goals as goal

pub returns : goal.returns
returns c =
    IfOk-weaker c.add-2.result _ _ (λ _ e4. λ n Ps Os B e counts is_answer is_step.
    let e1 = c.in_ok-add.ensures in
    let e2 = c.in_ok-push_value_scope.ensures n Ps Os counts in
    let e3 = c.in_ok-push_frozen.ensures in
    e4 ∙ rw (e3, e2, e1, is_step, is_answer) (simp append_assoc)) c.add-2.ensures
