use Rattle.std.proofs.Common.{◌∙◌}
use Rattle.std.proofs.lemmas.Result.{IfOk-weaker}
use Rattle.c_build.proofs.collection.push_turned.Goals as goal

pub returns : goal.returns
returns c =
    IfOk-weaker c.add.result _ _ (λ _ e. λ n Ps Os counts.
    e ∙ rw (c.behind-third.ensures, counts.params, counts.olds)) c.add.ensures
