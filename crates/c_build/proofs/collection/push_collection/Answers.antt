use Rattle.std.proofs.Common.{◌≡◌, length, arith}
use Rattle.std.proofs.lemmas.Grind.{common_steps}
use Rattle.std.proofs.lemmas.Result.{IfOk-weaker}
use Rattle.c_build.proofs.collection.push_collection.Goals as goal

pub returns : goal.returns
returns c =
    IfOk-weaker c.add-3.result _ _ (λ _ e6. λ n Ps Os Ss T A B V C counts is_answer is_answers is_chosen named values.
    let many : length c.args.members.now ≡ c.in-Ok.count = grind (arith, common_steps, c.in-Ok.ensures) in
    let h1 = c.in_ok-push_beginning.ensures many in
    let h2 = rw h1 at c.in_ok-add.ensures in
    let h3 = rw h2 at (c.in_ok-push_chosen.ensures n Ps Os V counts is_chosen named values) in
    let h4 = rw h3 at c.in_ok-add-2.ensures in
    let h5 = rw h4 at (c.in_ok-push_turn_lines.ensures n Ps Os B counts is_answer) in
    let h6 = rw h5 at e6 in
    rw (h6, h5, c.behind-kept.ensures, c.behind-second.ensures, c.behind-third.ensures, counts.params, counts.olds, is_answers, many)) c.add-3.ensures
