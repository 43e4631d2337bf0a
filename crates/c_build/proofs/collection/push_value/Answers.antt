use Rattle.std.proofs.lemmas.Result.{IfOk-weaker}
use Rattle.c_build.proofs.collection.push_value.Goals as goal

pub returns : goal.returns
returns c =
    IfOk-weaker c.add-2.result _ _ (λ _ e4. λ n Ps Os counts.
    let h2 = rw c.in_ok-push_spare.ensures at c.in_ok-add.ensures in
    let h3 = rw h2 at c.in_ok-push_spare-2.ensures in
    let h4 = rw h3 at e4 in
    rw (h4, h3, c.behind.ensures, c.behind-2.ensures, c.behind-3.ensures, counts.params, counts.olds)) c.add-2.ensures
