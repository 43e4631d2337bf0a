use Rattle.std.proofs.Common.{◌∙◌}
use Rattle.std.proofs.lemmas.Result.{IfOk-weaker}
use Rattle.c_build.proofs.collection.push_name.Goals as goal

pub returns : goal.returns
returns c =
    IfOk-weaker c.add-4.result _ _ (λ _ e6. λ n Ps Os counts.
    let e1 = c.in_ok-push_spare.ensures in
    let e2 = c.in_ok-add.ensures in
    let e3 = c.in_ok-push_running.ensures in
    let e4 = c.in_ok-add-2.ensures in
    let e5 = c.in_ok-add-3.ensures in
    e6 ∙ rw (e5, e4, e3, e2, e1, c.behind.ensures, c.behind-2.ensures, c.behind-3.ensures, counts.params, counts.olds))
    c.add-4.ensures
