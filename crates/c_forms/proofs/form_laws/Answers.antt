use Rattle.c_forms.proofs.Forms.{arr_law, same_step_law, seq_law, first_law, loop_law, out_law, in_law}
use Rattle.c_forms.proofs.Members.{par_law}
use Rattle.c_forms.proofs.form_laws.Goals as goal

pub returns-clause-arr : goal.returns-clause-arr
returns-clause-arr c = arr_law

pub returns-clause-same : goal.returns-clause-same
returns-clause-same c = same_step_law

pub returns-clause-seq : goal.returns-clause-seq
returns-clause-seq c = seq_law

pub returns-clause-first : goal.returns-clause-first
returns-clause-first c = first_law

pub returns-clause-looping : goal.returns-clause-looping
returns-clause-looping c = loop_law

pub returns-clause-out : goal.returns-clause-out
returns-clause-out c = out_law

pub returns-clause-inward : goal.returns-clause-inward
returns-clause-inward c = in_law

pub returns-clause-par : goal.returns-clause-par
returns-clause-par c = par_law
