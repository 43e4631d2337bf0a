use Rattle.c_build.proofs.cell_steps.clock_step.Goals as goal

pub returns-in-Time : goal.returns-in-Time
returns-in-Time c = rw c.in-Time.is c.time_step.ensures

pub returns-in-Integral : goal.returns-in-Integral
returns-in-Integral c = rw c.in-Integral.is c.integral_step.ensures
