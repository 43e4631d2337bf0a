use Rattle.net_meaning.proofs.SameForms.{initial_out_congruent, initial_in_congruent, collection_congruent}
use Rattle.net_meaning.proofs.Congruence.{arr_congruent, sequence_congruent, first_congruent, parallel_congruent, loop_congruent, previous_congruent, delay_congruent, hold_congruent, accumulate_congruent, after_congruent, repeatedly_congruent, switch_congruent, restart_congruent, freeze_congruent, freeze_members_congruent}
use Rattle.net_meaning.proofs.laws.congruence_laws.Goals as goal

pub returns-clause-arr : goal.returns-clause-arr
returns-clause-arr c = arr_congruent

pub returns-clause-sequence : goal.returns-clause-sequence
returns-clause-sequence c = sequence_congruent

pub returns-clause-first : goal.returns-clause-first
returns-clause-first c = first_congruent

pub returns-clause-parallel : goal.returns-clause-parallel
returns-clause-parallel c = parallel_congruent

pub returns-clause-loop_pre : goal.returns-clause-loop_pre
returns-clause-loop_pre c = loop_congruent

pub returns-clause-previous : goal.returns-clause-previous
returns-clause-previous c = previous_congruent

pub returns-clause-delay : goal.returns-clause-delay
returns-clause-delay c = delay_congruent

pub returns-clause-hold : goal.returns-clause-hold
returns-clause-hold c = hold_congruent

pub returns-clause-accumulate : goal.returns-clause-accumulate
returns-clause-accumulate c = accumulate_congruent

pub returns-clause-after : goal.returns-clause-after
returns-clause-after c = after_congruent

pub returns-clause-repeatedly : goal.returns-clause-repeatedly
returns-clause-repeatedly c = repeatedly_congruent

pub returns-clause-switch : goal.returns-clause-switch
returns-clause-switch c = switch_congruent

pub returns-clause-restart : goal.returns-clause-restart
returns-clause-restart c = restart_congruent

pub returns-clause-freeze : goal.returns-clause-freeze
returns-clause-freeze c = freeze_congruent

pub returns-clause-freeze_members : goal.returns-clause-freeze_members
returns-clause-freeze_members c = freeze_members_congruent

pub returns-clause-initial_out : goal.returns-clause-initial_out
returns-clause-initial_out c = initial_out_congruent

pub returns-clause-initial_in : goal.returns-clause-initial_in
returns-clause-initial_in c = initial_in_congruent

pub returns-clause-collection : goal.returns-clause-collection
returns-clause-collection c = collection_congruent
