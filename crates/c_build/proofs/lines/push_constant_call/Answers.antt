use Rattle.c_build.proofs.lines.push_constant_call.Goals as goal

pub returns : goal.returns
returns c = λ n Ps Os T counts is_type.
    let e1 = c.in_ok-add.ensures in
    let e2 = c.in_ok-push_params.ensures in
    let e3 = c.in_ok-add-2.ensures in
    rw (e3, e2, e1, counts.params, is_type)
