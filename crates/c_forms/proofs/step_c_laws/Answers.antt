use Rattle.c_forms.proofs.Checked.{checked_law}
use Rattle.c_forms.proofs.step_c_laws.Goals as goal

pub returns : goal.returns
returns s = record { checked = checked_law }
