use Rattle.c_build.proofs.plain.push_init.Goals as goal

pub returns : goal.returns
returns c = λ n S is_state.
    let e = c.in_ok-add.ensures in
    rw (e, is_state)
