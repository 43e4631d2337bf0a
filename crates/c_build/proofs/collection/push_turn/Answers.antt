use Rattle.std.proofs.Common.{◌∙◌}
use Rattle.std.proofs.lemmas.Result.{IfOk-weaker}
use Rattle.c_build.proofs.collection.push_turn.Goals as goal

pub returns : goal.returns
returns c =
    IfOk-weaker c.add.result _ _ (λ _ e2. λ n Ps Os counts.
    e2 ∙ rw (c.in_ok-push_running.ensures, c.behind-third.ensures, c.behind-fourth.ensures, counts.params, counts.olds)) c.add.ensures
