use Rattle.c_build.proofs.cells.push_first_kept.Goals as goal

pub returns : goal.returns
returns c = λ n Ps Os counts. rw (c.in_ok-add.ensures, c.behind.ensures, counts.params, counts.olds)
