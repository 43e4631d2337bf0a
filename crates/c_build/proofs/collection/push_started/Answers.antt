use Rattle.std.proofs.Common.{◌∙◌, length, [], ◌∷◌, ◌+◌, append_assoc}
use Rattle.std.proofs.lemmas.Result.{IfOk-weaker}
use Rattle.c_meaning.specs.Syntax.{by_const}
use Rattle.c_forms.specs.Standing.{param_args, old_args}
use Rattle.c_forms.specs.Collection.{started_by, turn_of}
use Rattle.c_build.proofs.collection.push_started.Goals as goal

pub returns : goal.returns
returns c =
    IfOk-weaker c.push_turn_end.result _ _ (λ _ e6. λ n Ps Os B counts is_answer.
    let e1 = c.in_ok-push_turn.ensures n Ps Os counts in
    let e2 = c.in_ok-push_params.ensures in
    let e3 = c.in_ok-push_running.ensures in
    let e4 = c.in_ok-add.ensures in
    let e5 = c.in_ok-push_olds.ensures in
    let a = append_assoc (param_args 3 (length Ps)) (by_const (started_by (turn_of n Ps Os)) ∷ [])
    (old_args (3 + length Ps) (length Os)) in
    e6 n Ps Os counts ∙ rw (e5, e4, e3, e2, e1, c.behind-third.ensures, ← counts.params, ← counts.olds, is_answer, a)) c.push_turn_end.ensures
