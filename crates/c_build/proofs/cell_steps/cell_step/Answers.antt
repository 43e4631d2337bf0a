use Rattle.c_build.proofs.cell_steps.cell_step.Goals as goal

pub returns-in-IPre : goal.returns-in-IPre
returns-in-IPre c = rw c.in-IPre.is c.i_pre_step.ensures

pub returns-in-Delay : goal.returns-in-Delay
returns-in-Delay c = rw c.in-Delay.is c.delay_step.ensures

pub returns-in-Hold : goal.returns-in-Hold
returns-in-Hold c = rw c.in-Hold.is c.hold_step.ensures

pub returns-in-After : goal.returns-in-After
returns-in-After c = rw c.in-After.is c.after_step.ensures

pub returns-in-Repeatedly : goal.returns-in-Repeatedly
returns-in-Repeatedly c = rw c.in-Repeatedly.is c.repeatedly_step.ensures
