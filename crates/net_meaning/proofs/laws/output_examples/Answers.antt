use Rattle.net_meaning.proofs.Computed.{add_then_delay, on_nothing, add_wraps, repeatedly_by_time, after_once, after_at_once, time_wraps, switch_at_once, switch_late, started_at_the_event, switch_twice, restart_at_events, restart_at_the_first, freeze_clock, freeze_and_resume, clock_of_six, swap_members, delay_by_time, sums_fed_back, sums_held, edge_at_true, member_numbers, routed_pasts, delay_of_many, integral_wraps, restart_clock, sums_at_events, first_output, first_input, restart_late, restart_late_at_first, restart_two_late, collection, collection_empty, collection_full, restart_at_each, choose_and_start, restarted_collection, resumed_openings, openings_frozen_first, late_under, resumed_collection, resumed_twice, restarted_member}
use Rattle.net_meaning.proofs.laws.output_examples.Goals as goal

pub returns-clause-add_then_delay : goal.returns-clause-add_then_delay
returns-clause-add_then_delay c = add_then_delay

pub returns-clause-on_nothing : goal.returns-clause-on_nothing
returns-clause-on_nothing c = on_nothing

pub returns-clause-add_wraps : goal.returns-clause-add_wraps
returns-clause-add_wraps c = add_wraps

pub returns-clause-repeatedly_by_time : goal.returns-clause-repeatedly_by_time
returns-clause-repeatedly_by_time c = repeatedly_by_time

pub returns-clause-after_once : goal.returns-clause-after_once
returns-clause-after_once c = after_once

pub returns-clause-after_at_once : goal.returns-clause-after_at_once
returns-clause-after_at_once c = after_at_once

pub returns-clause-time_wraps : goal.returns-clause-time_wraps
returns-clause-time_wraps c = time_wraps

pub returns-clause-switch_at_once : goal.returns-clause-switch_at_once
returns-clause-switch_at_once c = switch_at_once

pub returns-clause-switch_late : goal.returns-clause-switch_late
returns-clause-switch_late c = switch_late

pub returns-clause-started_at_the_event : goal.returns-clause-started_at_the_event
returns-clause-started_at_the_event c = started_at_the_event

pub returns-clause-switch_twice : goal.returns-clause-switch_twice
returns-clause-switch_twice c = switch_twice

pub returns-clause-restart_at_events : goal.returns-clause-restart_at_events
returns-clause-restart_at_events c = restart_at_events

pub returns-clause-restart_at_the_first : goal.returns-clause-restart_at_the_first
returns-clause-restart_at_the_first c = restart_at_the_first

pub returns-clause-freeze_clock : goal.returns-clause-freeze_clock
returns-clause-freeze_clock c = freeze_clock

pub returns-clause-freeze_and_resume : goal.returns-clause-freeze_and_resume
returns-clause-freeze_and_resume c = freeze_and_resume

pub returns-clause-clock_of_six : goal.returns-clause-clock_of_six
returns-clause-clock_of_six c = clock_of_six

pub returns-clause-swap_members : goal.returns-clause-swap_members
returns-clause-swap_members c = swap_members

pub returns-clause-delay_by_time : goal.returns-clause-delay_by_time
returns-clause-delay_by_time c = delay_by_time

pub returns-clause-sums_fed_back : goal.returns-clause-sums_fed_back
returns-clause-sums_fed_back c = sums_fed_back

pub returns-clause-sums_held : goal.returns-clause-sums_held
returns-clause-sums_held c = sums_held

pub returns-clause-edge_at_true : goal.returns-clause-edge_at_true
returns-clause-edge_at_true c = edge_at_true

pub returns-clause-member_numbers : goal.returns-clause-member_numbers
returns-clause-member_numbers c = member_numbers

pub returns-clause-routed_pasts : goal.returns-clause-routed_pasts
returns-clause-routed_pasts c = routed_pasts

pub returns-clause-delay_of_many : goal.returns-clause-delay_of_many
returns-clause-delay_of_many c = delay_of_many

pub returns-clause-integral_wraps : goal.returns-clause-integral_wraps
returns-clause-integral_wraps c = integral_wraps

pub returns-clause-restart_clock : goal.returns-clause-restart_clock
returns-clause-restart_clock c = restart_clock

pub returns-clause-sums_at_events : goal.returns-clause-sums_at_events
returns-clause-sums_at_events c = sums_at_events

pub returns-clause-first_output : goal.returns-clause-first_output
returns-clause-first_output c = first_output

pub returns-clause-first_input : goal.returns-clause-first_input
returns-clause-first_input c = first_input

pub returns-clause-restart_late : goal.returns-clause-restart_late
returns-clause-restart_late c = restart_late

pub returns-clause-restart_late_at_first : goal.returns-clause-restart_late_at_first
returns-clause-restart_late_at_first c = restart_late_at_first

pub returns-clause-restart_two_late : goal.returns-clause-restart_two_late
returns-clause-restart_two_late c = restart_two_late

pub returns-clause-collection : goal.returns-clause-collection
returns-clause-collection c = collection

pub returns-clause-collection_empty : goal.returns-clause-collection_empty
returns-clause-collection_empty c = collection_empty

pub returns-clause-collection_full : goal.returns-clause-collection_full
returns-clause-collection_full c = collection_full

pub returns-clause-restart_at_each : goal.returns-clause-restart_at_each
returns-clause-restart_at_each c = restart_at_each

pub returns-clause-choose_and_start : goal.returns-clause-choose_and_start
returns-clause-choose_and_start c = choose_and_start

pub returns-clause-restarted_collection : goal.returns-clause-restarted_collection
returns-clause-restarted_collection c = restarted_collection

pub returns-clause-resumed_openings : goal.returns-clause-resumed_openings
returns-clause-resumed_openings c = resumed_openings

pub returns-clause-openings_frozen_first : goal.returns-clause-openings_frozen_first
returns-clause-openings_frozen_first c = openings_frozen_first

pub returns-clause-late_under : goal.returns-clause-late_under
returns-clause-late_under c = late_under

pub returns-clause-resumed_collection : goal.returns-clause-resumed_collection
returns-clause-resumed_collection c = resumed_collection

pub returns-clause-resumed_twice : goal.returns-clause-resumed_twice
returns-clause-resumed_twice c = resumed_twice

pub returns-clause-restarted_member : goal.returns-clause-restarted_member
returns-clause-restarted_member c = restarted_member
