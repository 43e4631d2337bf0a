use Rattle.std.proofs.Common.{◌∙◌}
use Rattle.std.proofs.lemmas.Result.{IfOk-weaker}
use Rattle.c_build.proofs.collection.push_turn_lines.Goals as goal

pub returns : goal.returns
returns c =
    IfOk-weaker c.add-2.result _ _ (λ _ e3. λ n Ps Os B counts is_answer.
    let e1 = c.in_ok-add.ensures in
    let e2 = c.in_ok-push_cases.ensures n Ps Os B counts is_answer in
    e3 ∙ rw (e2, e1, c.behind-kept.ensures, c.behind-third.ensures, counts.params, counts.olds)) c.add-2.ensures
