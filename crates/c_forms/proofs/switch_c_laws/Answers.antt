use Rattle.c_forms.proofs.Switches.{switch_law}
use Rattle.c_forms.proofs.Restarts.{r_switch_law}
use Rattle.c_forms.proofs.Freezing.{k_switch_law, p_switch_law}
use Rattle.c_forms.proofs.Routing.{routed_law, routed_par_law}
use Rattle.c_forms.proofs.Olds.{old_law}
use Rattle.c_forms.proofs.switch_c_laws.Goals as goal

pub returns-clause-switch : goal.returns-clause-switch
returns-clause-switch c = switch_law

pub returns-clause-r_switch : goal.returns-clause-r_switch
returns-clause-r_switch c = r_switch_law

pub returns-clause-k_switch : goal.returns-clause-k_switch
returns-clause-k_switch c = k_switch_law

pub returns-clause-p_switch : goal.returns-clause-p_switch
returns-clause-p_switch c = p_switch_law

pub returns-clause-routed : goal.returns-clause-routed
returns-clause-routed c = routed_law

pub returns-clause-routed_par : goal.returns-clause-routed_par
returns-clause-routed_par c = routed_par_law

pub returns-clause-old : goal.returns-clause-old
returns-clause-old c = old_law
