use Rattle.std.proofs.lemmas.Result.{IfOk-weaker}
use Rattle.c_build.proofs.switches.push_anew_at.Goals as goal

pub returns-in-AtOnce : goal.returns-in-AtOnce
returns-in-AtOnce c =
    IfOk-weaker c.push_anew.result _ _ (λ _ p. λ n Ps Os B counts is_answer.
    rw c.in-AtOnce.is (p n Ps Os B counts is_answer)) c.push_anew.ensures

pub returns-in-Delayed : goal.returns-in-Delayed
returns-in-Delayed c =
    IfOk-weaker c.push_anew_later.result _ _ (λ _ p. λ n Ps Os B counts is_answer.
    rw c.in-Delayed.is (p n Ps Os B counts is_answer)) c.push_anew_later.ensures
