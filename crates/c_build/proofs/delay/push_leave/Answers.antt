use Rattle.c_build.proofs.delay.push_leave.Goals as goal

pub returns : goal.returns
returns c = c.in_ok-add.ensures
