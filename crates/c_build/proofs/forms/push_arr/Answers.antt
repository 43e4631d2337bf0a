use Rattle.std.proofs.Common.{refl}
use Rattle.c_meaning.specs.Syntax.{local}
use Rattle.c_build.proofs.forms.push_arr.Goals as goal

pub returns : goal.returns
returns c = λ n Ps Os A B counts is_answer.
    let e1 = c.in_ok-push_leaf_call.ensures n Ps Os B (local 2) counts is_answer (λ t. refl) in
    let e2 = c.in_ok-add.ensures in
    rw (e2, e1, c.behind.ensures, counts.params, counts.olds)
