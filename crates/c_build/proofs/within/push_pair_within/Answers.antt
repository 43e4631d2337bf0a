use Rattle.c_build.proofs.within.push_pair_within.Goals as goal

pub returns : goal.returns
returns c = λ n.
    let e1 = c.in_ok-push_within.ensures in
    let e2 = c.in_ok-push_within-2.ensures in
    let e3 = c.in_ok-add.ensures in
    rw (e3, e2, e1, c.get.ensures, c.get-2.ensures)
