use Rattle.net_meaning.proofs.SwitchedOutputs.{switch_outputs, restart_outputs, freeze_outputs, freeze_members_outputs, resume_outputs, kept_numbers, late_restart_outputs, collection_outputs}
use Rattle.net_meaning.proofs.laws.switching_laws.Goals as goal

pub returns-clause-switch : goal.returns-clause-switch
returns-clause-switch c = switch_outputs

pub returns-clause-restart : goal.returns-clause-restart
returns-clause-restart c = restart_outputs

pub returns-clause-freeze : goal.returns-clause-freeze
returns-clause-freeze c = freeze_outputs

pub returns-clause-freeze_members : goal.returns-clause-freeze_members
returns-clause-freeze_members c = freeze_members_outputs

pub returns-clause-resume : goal.returns-clause-resume
returns-clause-resume c = resume_outputs

pub returns-clause-kept_numbers : goal.returns-clause-kept_numbers
returns-clause-kept_numbers c = kept_numbers

pub returns-clause-late_restart : goal.returns-clause-late_restart
returns-clause-late_restart c = late_restart_outputs

pub returns-clause-collection : goal.returns-clause-collection
returns-clause-collection c = collection_outputs
