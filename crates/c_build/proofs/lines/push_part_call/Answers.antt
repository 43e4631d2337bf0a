use Rattle.c_build.proofs.lines.push_part_call.Goals as goal

pub returns : goal.returns
returns c = λ n Ps Os T p e counts is_type is_part is_x.
    let e1 = c.in_ok-add.ensures in
    let e2 = c.in_ok-add-2.ensures in
    let e3 = c.in_ok-add-3.ensures in
    let e4 = c.in_ok-add-4.ensures in
    let e5 = c.in_ok-add-5.ensures in
    let e6 = c.in_ok-push_scope.ensures in
    let e7 = c.in_ok-add-6.ensures in
    rw (e7, e6, e5, e4, is_x, e3, e2, is_part, e1, counts.params, counts.olds, is_type)
