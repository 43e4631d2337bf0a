use Rattle.c_build.proofs.delay.push_leaving.Goals as goal

pub returns : goal.returns
returns c =
    let e1 = c.in_ok-add.ensures in
    let e2 = c.in_ok-push_leave.ensures in
    let e3 = c.in_ok-add-2.ensures in
    rw (e3, e2, e1)
