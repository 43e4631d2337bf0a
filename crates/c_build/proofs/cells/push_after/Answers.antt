use Rattle.c_forms.specs.Cells.{number_term}
use Rattle.c_build.proofs.cells.push_after.Goals as goal

pub returns : goal.returns
returns c = λ n Ps Os V A counts is_kept is_answer.
    let e1 = c.in_ok-push_constant_call.ensures n Ps Os V counts is_kept in
    let e2 = c.in_ok-push_wait.ensures n Ps Os (number_term c.args.q) counts c.in_ok-wait.ensures in
    let e3 = c.in_ok-add.ensures in
    let e4 = c.in_ok-add-2.ensures in
    rw (e4, e3, e2, e1, is_answer)
