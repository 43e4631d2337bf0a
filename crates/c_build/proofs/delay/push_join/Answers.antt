use Rattle.c_build.proofs.delay.push_join.Goals as goal

pub returns : goal.returns
returns c = λ n Ps Os counts. rw (c.in_ok-add.ensures, c.behind.ensures, c.behind-2.ensures, counts.params, counts.olds)
