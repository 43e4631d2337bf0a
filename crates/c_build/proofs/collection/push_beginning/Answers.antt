use Rattle.std.proofs.Common.{◌∙◌}
use Rattle.std.proofs.lemmas.Result.{IfOk-weaker}
use Rattle.c_build.proofs.collection.push_beginning.Goals as goal

pub returns : goal.returns
returns c =
    IfOk-weaker c.add-2.result _ _ (λ _ e3. λ count.
    e3 ∙ rw (c.in_ok-push_origins.ensures, c.in_ok-add.ensures, count)) c.add-2.ensures
