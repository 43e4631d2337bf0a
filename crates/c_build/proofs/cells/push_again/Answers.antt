use Rattle.c_build.proofs.cells.push_again.Goals as goal

pub returns : goal.returns
returns c = λ e is_q. rw (c.in_ok-add.ensures, is_q)
