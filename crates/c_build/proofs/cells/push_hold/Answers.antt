use Rattle.c_build.proofs.cells.push_hold.Goals as goal

pub returns : goal.returns
returns c = λ n Ps Os V counts is_kept.
    let e1 = c.in_ok-push_constant_call.ensures n Ps Os V counts is_kept in
    let e2 = c.in_ok-push_first_kept.ensures n Ps Os counts in
    let e3 = c.in_ok-add.ensures in
    rw (e3, e2, e1)
