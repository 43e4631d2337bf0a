use Rattle.c_build.proofs.checked.push_checked.Goals as goal

pub returns : goal.returns
returns c = λ n B is_answer.
    let e1 = c.in_ok-add.ensures in
    let e2 = c.in_ok-add-2.ensures in
    rw (e2, e1, is_answer)
