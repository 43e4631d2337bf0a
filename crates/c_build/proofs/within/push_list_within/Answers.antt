use Rattle.c_build.proofs.within.push_list_within.Goals as goal

pub returns : goal.returns
returns c = λ n is_most.
    let h1 = c.in_ok-add.ensures in
    let h2 = rw (h1, c.get.ensures) at c.in_ok-push_within.ensures in
    let h3 = rw h2 at c.in_ok-add-2.ensures in
    rw (h3, h2, is_most)
