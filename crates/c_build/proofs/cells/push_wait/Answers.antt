use Rattle.c_build.proofs.cells.push_wait.Goals as goal

pub returns : goal.returns
returns c = λ n Ps Os e counts is_q. rw (c.in_ok-add.ensures, c.behind.ensures, counts.params, counts.olds, is_q)
