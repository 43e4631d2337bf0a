use Rattle.c_build.proofs.switches.push_untaken.Goals as goal

pub returns : goal.returns
returns c = c.add.ensures
