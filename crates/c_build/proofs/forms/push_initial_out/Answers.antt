use Rattle.std.proofs.Common.{refl}
use Rattle.c_meaning.specs.Syntax.{local}
use Rattle.c_build.proofs.forms.push_initial_out.Goals as goal

pub returns : goal.returns
returns c = λ n Ps Os S A B counts is_answer.
    let e1 = c.in_ok-push_constant_call.ensures n Ps Os B counts is_answer in
    let e2 = c.in_ok-push_part_call.ensures n Ps Os B (local 0) (local 2) counts is_answer (λ t. refl) (λ t. refl) in
    let e3 = c.in_ok-add.ensures in
    rw (e3, e2, e1, c.behind.ensures, c.behind-2.ensures, counts.params, counts.olds)
