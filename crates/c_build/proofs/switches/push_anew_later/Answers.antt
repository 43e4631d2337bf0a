use Rattle.std.proofs.Common.{◌∙◌, refl}
use Rattle.std.proofs.lemmas.Result.{IfOk-weaker}
use Rattle.c_meaning.specs.Syntax.{local, dot}
use Rattle.c_build.proofs.switches.push_anew_later.Goals as goal

pub returns : goal.returns
returns c =
    IfOk-weaker c.add-2.result _ _ (λ _ e6. λ n Ps Os B counts is_answer.
    let e1 = c.in_ok-push_taker_call.ensures n Ps Os B (local 1) counts is_answer (λ t. refl) in
    let e2 = c.in_ok-push_late.ensures n Ps Os B counts is_answer in
    let e3 = c.in_ok-add.ensures in
    let e4 = c.in_ok-push_part_call.ensures n Ps Os B (dot (local 0) 2) (local c.behind-input.result) counts is_answer (λ t. refl) (λ t. refl) in
    let e5 = c.in_ok-push_late-2.ensures n Ps Os B counts is_answer in
    e6 ∙ rw (e5, e4, e3, e2, e1, c.behind-input.ensures, counts.params, counts.olds)) c.add-2.ensures
