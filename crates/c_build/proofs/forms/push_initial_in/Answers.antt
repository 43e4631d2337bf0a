use Rattle.std.proofs.Common.{refl}
use Rattle.c_meaning.specs.Syntax.{local}
use Rattle.c_forms.specs.Standing.{behind}
use Rattle.c_build.proofs.forms.push_initial_in.Goals as goal

pub returns : goal.returns
returns c = λ n Ps Os S A B counts is_input is_answer.
    let e1 = c.in_ok-push_constant_call.ensures n Ps Os A counts is_input in
    let e2 = c.in_ok-add.ensures in
    let e3 = c.in_ok-push_part_call.ensures n Ps Os B (local 0) (behind n Ps Os 1) counts is_answer (λ t. refl)
    (λ t. rw (c.behind-2.ensures, counts.params, counts.olds)) in
    let e4 = c.in_ok-add-2.ensures in
    rw (e4, e3, e2, e1, c.behind.ensures, c.behind-3.ensures, counts.params, counts.olds, is_input)
