use Rattle.c_build.proofs.delay.push_emptied.Goals as goal

pub returns : goal.returns
returns c = λ n Ps Os counts. rw (c.in_ok-add.ensures, c.behind.ensures, counts.params, counts.olds)
