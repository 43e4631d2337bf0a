use Rattle.c_build.proofs.forms.push_same.Goals as goal

pub returns : goal.returns
returns c = λ n Ps Os A. c.in_ok-add.ensures
