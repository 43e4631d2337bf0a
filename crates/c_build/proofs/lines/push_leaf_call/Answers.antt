use Rattle.c_build.proofs.lines.push_leaf_call.Goals as goal

pub returns : goal.returns
returns c = λ n Ps Os T e counts is_type is_x.
    let e1 = c.in_ok-add.ensures in
    let e2 = c.in_ok-push_params.ensures in
    let e3 = c.in_ok-add-2.ensures in
    let e4 = c.in_ok-add-3.ensures in
    rw (e4, e3, is_x, e2, e1, counts.params, is_type)
