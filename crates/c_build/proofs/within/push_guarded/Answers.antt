use Rattle.c_build.proofs.within.push_guarded.Goals as goal

pub returns : goal.returns
returns c = λ n d. c.in_ok-add.ensures
