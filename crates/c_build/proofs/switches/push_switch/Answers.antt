use Rattle.std.proofs.Common.{◌∙◌, refl}
use Rattle.std.proofs.lemmas.Result.{IfOk-weaker}
use Rattle.sample_core.specs.TypeTree.{pair_ty, event_ty}
use Rattle.c_meaning.specs.Syntax.{local, dot}
use Rattle.c_build.proofs.switches.push_switch.Goals as goal

pub returns : goal.returns
returns c =
    IfOk-weaker c.add-2.result _ _ (λ _ e7. λ n Ps Os S T A B V counts is_beside is_answer.
    let e1 = c.in_ok-push_untaken.ensures in
    let e2 = c.in_ok-push_taken.ensures n Ps Os B counts is_answer in
    let e3 = c.in_ok-push_part_call.ensures n Ps Os (pair_ty B (event_ty V)) (dot (local 0) 2) (local 2) counts is_beside (λ t. refl) (λ t. refl) in
    let e4 = c.in_ok-add.ensures in
    let e5 = c.in_ok-push_start.ensures n Ps Os B counts is_answer in
    let e6 = c.in_ok-push_heard.ensures n Ps Os counts in
    e7 ∙ rw (e6, e5, e4, e3, e2, e1, c.behind-first.ensures, counts.params, counts.olds)) c.add-2.ensures
