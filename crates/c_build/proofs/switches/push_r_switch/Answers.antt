use Rattle.std.proofs.Common.{◌∙◌}
use Rattle.std.proofs.lemmas.Result.{IfOk-weaker}
use Rattle.c_build.proofs.switches.push_r_switch.Goals as goal

pub returns : goal.returns
returns c =
    IfOk-weaker c.add.result _ _ (λ _ e4. λ n Ps Os S T A B V counts is_left is_struct is_answer.
    let e1 = c.in_ok-push_untaken.ensures in
    let e2 = c.in_ok-push_left.ensures n A is_left is_struct in
    let e3 = c.in_ok-push_anew_at.ensures n Ps Os B counts is_answer in
    e4 ∙ rw (e3, e2, e1)) c.add.ensures
