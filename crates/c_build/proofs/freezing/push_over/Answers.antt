use Rattle.std.proofs.Common.{refl}
use Rattle.std.proofs.lemmas.Result.{IfOk-weaker}
use Rattle.c_forms.specs.Cells.{number_term}
use Rattle.c_build.proofs.freezing.push_over.Goals as goal

pub returns : goal.returns
returns c =
    IfOk-weaker c.push_resumer_call.result _ _ (λ _ e2. λ n Ps Os B counts is_answer.
    rw (e2 n Ps Os B (number_term 0) counts is_answer (λ t. refl), c.in_ok-add.ensures, c.behind-first.ensures, c.behind-third.ensures, counts.params, counts.olds)) c.push_resumer_call.ensures
