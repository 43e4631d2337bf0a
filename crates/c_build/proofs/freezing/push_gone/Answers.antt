use Rattle.std.proofs.Common.{◌∙◌, refl}
use Rattle.std.proofs.lemmas.Result.{IfOk-weaker}
use Rattle.c_meaning.specs.Syntax.{local}
use Rattle.c_build.proofs.freezing.push_gone.Goals as goal

pub returns : goal.returns
returns c =
    IfOk-weaker c.add.result _ _ (λ _ e3. λ n Ps Os B counts is_answer.
    let e1 = c.in_ok-push_untaken.ensures in
    let e2 = c.in_ok-push_resumer_call.ensures n Ps Os B (local 1) counts is_answer (λ t. refl) in
    e3 ∙ rw (e2, e1, c.behind.ensures, counts.params, counts.olds)) c.add.ensures
