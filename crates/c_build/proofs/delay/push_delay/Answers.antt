use Rattle.c_build.proofs.delay.push_delay.Goals as goal

pub returns : goal.returns
returns c = λ n Ps Os V counts is_kept.
    let e1 = c.in_ok-push_constant_call.ensures n Ps Os V counts is_kept in
    let e2 = c.in_ok-push_emptied.ensures n Ps Os counts in
    let e3 = c.in_ok-push_later.ensures in
    let e4 = c.in_ok-push_leaving.ensures in
    let e5 = c.in_ok-push_place.ensures in
    let e6 = c.in_ok-push_join.ensures n Ps Os counts in
    let e7 = c.in_ok-add.ensures in
    rw (e7, e6, e5, e4, e3, e2, e1, c.in_ok-most.ensures)
