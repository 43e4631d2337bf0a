use Rattle.c_build.proofs.cells.push_i_pre.Goals as goal

pub returns : goal.returns
returns c = λ n Ps Os V counts is_kept.
    let e1 = c.in_ok-push_constant_call.ensures n Ps Os V counts is_kept in
    let e2 = c.in_ok-add.ensures in
    rw (e2, e1, c.behind.ensures, c.behind-2.ensures, counts.params, counts.olds, is_kept)
