use Rattle.std.proofs.lemmas.Result.{IfOk-weaker}
use Rattle.c_build.proofs.freezing.push_old.Goals as goal

pub returns : goal.returns
returns c =
    IfOk-weaker c.add-2.result _ _ (λ _ e4. λ n Qs Qs' Rs Rs' S A B counts is_answer qs rs.
    let h2 = rw c.in_ok-add.ensures at c.in_ok-push_locals.ensures in
    let h3 = rw h2 at c.in_ok-push_pairs.ensures in
    let h4 = rw h3 at e4 in
    rw (h4, h3, c.behind-dt.ensures, c.behind-given.ensures, counts.params, counts.olds, qs, rs, is_answer)) c.add-2.ensures
