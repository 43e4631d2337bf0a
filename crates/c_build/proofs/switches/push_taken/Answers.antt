use Rattle.std.proofs.Common.{refl}
use Rattle.std.proofs.lemmas.Result.{IfOk-weaker}
use Rattle.c_meaning.specs.Syntax.{local}
use Rattle.c_build.proofs.switches.push_taken.Goals as goal

pub returns : goal.returns
returns c =
    IfOk-weaker c.add.result _ _ (λ _ e2. λ n Ps Os B counts is_answer.
    let e1 = c.in_ok-push_taker_call.ensures n Ps Os B (local 1) counts is_answer (λ t. refl) in
    rw e1 at e2) c.add.ensures
