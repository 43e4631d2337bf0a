use Rattle.std.proofs.Common.{append_assoc}
use Rattle.std.proofs.lemmas.Result.{IfOk-weaker}
use Rattle.c_build.proofs.switches.push_value_scope.Goals as goal

pub returns : goal.returns
returns c =
    IfOk-weaker c.push_olds.result _ _ (λ _ e3. λ n Ps Os counts.
    let h2 = rw c.in_ok-push_params.ensures at c.in_ok-add.ensures in
    let h3 = rw h2 at e3 in
    rw (h3, counts.params, counts.olds) (simp append_assoc))
    c.push_olds.ensures
