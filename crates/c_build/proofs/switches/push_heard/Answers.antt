use Rattle.std.proofs.Common.{◌∙◌}
use Rattle.std.proofs.lemmas.Result.{IfOk-weaker}
use Rattle.c_build.proofs.switches.push_heard.Goals as goal

pub returns-in-AtOnce : goal.returns-in-AtOnce
returns-in-AtOnce c =
    IfOk-weaker c.add.result _ _ (λ _ e. λ n Ps Os counts.
    e ∙ rw (c.in-AtOnce.is, c.behind.ensures, counts.params, counts.olds)) c.add.ensures

pub returns-in-Delayed : goal.returns-in-Delayed
returns-in-Delayed c =
    IfOk-weaker c.add-in-Delayed.result _ _ (λ _ e. λ n Ps Os counts.
    e ∙ rw (c.in-Delayed.is, c.behind-in-Delayed.ensures, counts.params, counts.olds)) c.add-in-Delayed.ensures
