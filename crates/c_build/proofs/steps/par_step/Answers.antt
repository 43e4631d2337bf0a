use Rattle.c_build.proofs.steps.par_step.Goals as goal

pub returns : goal.returns
returns c = λ cs h. rw (c.as_slice.ensures.value, c.in_ok-js.ensures cs h) at (c.in_ok-step.ensures cs h)
