use Rattle.step_core.proofs.ComputedVisits.{add_then_delay, switch_at_once, switch_late, switch_twice, freeze_clock, swap_members, swap_members_weight, first_output, restart_late, restart_two_late, collection, collection_empty, collection_full, restart_each, freeze_opened, freeze_collection, keep_twice}
use Rattle.step_core.proofs.laws.visit_examples.Goals as goal

pub returns-clause-add_then_delay : goal.returns-clause-add_then_delay
returns-clause-add_then_delay c = add_then_delay

pub returns-clause-switch_at_once : goal.returns-clause-switch_at_once
returns-clause-switch_at_once c = switch_at_once

pub returns-clause-switch_late : goal.returns-clause-switch_late
returns-clause-switch_late c = switch_late

pub returns-clause-switch_twice : goal.returns-clause-switch_twice
returns-clause-switch_twice c = switch_twice

pub returns-clause-freeze_clock : goal.returns-clause-freeze_clock
returns-clause-freeze_clock c = freeze_clock

pub returns-clause-swap_members : goal.returns-clause-swap_members
returns-clause-swap_members c = swap_members

pub returns-clause-swap_members_weight : goal.returns-clause-swap_members_weight
returns-clause-swap_members_weight c = swap_members_weight

pub returns-clause-first_output : goal.returns-clause-first_output
returns-clause-first_output c = first_output

pub returns-clause-restart_late : goal.returns-clause-restart_late
returns-clause-restart_late c = restart_late

pub returns-clause-restart_two_late : goal.returns-clause-restart_two_late
returns-clause-restart_two_late c = restart_two_late

pub returns-clause-collection : goal.returns-clause-collection
returns-clause-collection c = collection

pub returns-clause-collection_empty : goal.returns-clause-collection_empty
returns-clause-collection_empty c = collection_empty

pub returns-clause-collection_full : goal.returns-clause-collection_full
returns-clause-collection_full c = collection_full

pub returns-clause-restart_each : goal.returns-clause-restart_each
returns-clause-restart_each c = restart_each

pub returns-clause-freeze_opened : goal.returns-clause-freeze_opened
returns-clause-freeze_opened c = freeze_opened

pub returns-clause-freeze_collection : goal.returns-clause-freeze_collection
returns-clause-freeze_collection c = freeze_collection

pub returns-clause-keep_twice : goal.returns-clause-keep_twice
returns-clause-keep_twice c = keep_twice
