use Rattle.c_forms.specs.Standing.{behind}
use Rattle.c_build.proofs.cells.push_accum.Goals as goal

pub returns : goal.returns
returns c = λ n Ps Os U V counts is_kept is_passed is_answer.
    let e1 = c.in_ok-push_constant_call.ensures n Ps Os V counts is_kept in
    let e2 = c.in_ok-push_first_kept.ensures n Ps Os counts in
    let e3 = c.in_ok-add.ensures in
    let e4 = c.in_ok-push_leaf_call.ensures n Ps Os V (behind n Ps Os 1) counts is_kept
    (λ t. rw (c.behind.ensures, counts.params, counts.olds)) in
    let e5 = c.in_ok-add-2.ensures in
    rw (e5, e4, e3, e2, e1, c.behind-2.ensures, c.behind-3.ensures, counts.params, counts.olds, is_passed, is_answer)
