use Rattle.c_forms.proofs.Cells.{i_pre_law, hold_law, accum_law, after_law, repeatedly_law, time_law, integral_law}
use Rattle.c_forms.proofs.DelayLaw.{delay_law}
use Rattle.c_forms.proofs.cell_c_laws.Goals as goal

pub returns-clause-i_pre : goal.returns-clause-i_pre
returns-clause-i_pre c = i_pre_law

pub returns-clause-hold : goal.returns-clause-hold
returns-clause-hold c = hold_law

pub returns-clause-accum : goal.returns-clause-accum
returns-clause-accum c = accum_law

pub returns-clause-after : goal.returns-clause-after
returns-clause-after c = after_law

pub returns-clause-repeatedly : goal.returns-clause-repeatedly
returns-clause-repeatedly c = repeatedly_law

pub returns-clause-time : goal.returns-clause-time
returns-clause-time c = time_law

pub returns-clause-integral : goal.returns-clause-integral
returns-clause-integral c = integral_law

pub returns-clause-delay : goal.returns-clause-delay
returns-clause-delay c = delay_law
