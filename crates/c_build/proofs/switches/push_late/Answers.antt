use Rattle.std.proofs.lemmas.Result.{IfOk-weaker}
use Rattle.c_build.proofs.switches.push_late.Goals as goal

pub returns : goal.returns
returns c =
    IfOk-weaker c.add.result _ _ (λ _ e2. λ n Ps Os B counts is_answer.
    let e1 = c.in_ok-push_start.ensures n Ps Os B counts is_answer in
    let h2 = rw e1 at e2 in
    rw (h2, c.behind.ensures, c.behind-2.ensures, counts.params, counts.olds)) c.add.ensures
