use Rattle.std.proofs.Common.{◌∙◌, refl}
use Rattle.std.proofs.lemmas.Result.{IfOk-weaker}
use Rattle.sample_core.specs.TypeTree.{event_ty}
use Rattle.c_meaning.specs.Syntax.{local}
use Rattle.c_forms.specs.Freezing.{watched_of, watcher_of}
use Rattle.c_build.proofs.freezing.push_freezing.Goals as goal

pub returns : goal.returns
returns c =
    IfOk-weaker c.add-3.result _ _ (λ _ e7. λ n Ps Os S W T A B V counts is_answer is_both is_event.
    let e1 = c.in_ok-push_gone.ensures n Ps Os B counts is_answer in
    let e2 = c.in_ok-add.ensures in
    let e3 = c.in_ok-push_part_call.ensures n Ps Os B watched_of (local 2) counts is_answer (λ t. refl) (λ t. refl) in
    let e4 = c.in_ok-add-2.ensures in
    let e5 = c.in_ok-push_part_call-2.ensures n Ps Os (event_ty V) watcher_of (local c.behind-second.result) counts is_event (λ t. refl) (λ t. refl) in
    let e6 = c.in_ok-push_over.ensures n Ps Os B counts is_answer in
    e7 ∙ rw (e6, e5, e4, e3, e2, e1, is_both, c.behind-first.ensures, c.behind-second.ensures, c.behind-fourth.ensures, counts.params, counts.olds)) c.add-3.ensures
