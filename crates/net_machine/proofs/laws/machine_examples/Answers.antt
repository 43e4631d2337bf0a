use Rattle.net_machine.proofs.Computed.{resumed_twice, choose_and_start, resumed_openings, openings_frozen_first, restarted_member, delay_of_four, used_store}
use Rattle.net_machine.proofs.laws.machine_examples.Goals as goal

pub returns-clause-resumed_twice : goal.returns-clause-resumed_twice
returns-clause-resumed_twice c = resumed_twice

pub returns-clause-choose_and_start : goal.returns-clause-choose_and_start
returns-clause-choose_and_start c = choose_and_start

pub returns-clause-resumed_openings : goal.returns-clause-resumed_openings
returns-clause-resumed_openings c = resumed_openings

pub returns-clause-openings_frozen_first : goal.returns-clause-openings_frozen_first
returns-clause-openings_frozen_first c = openings_frozen_first

pub returns-clause-restarted_member : goal.returns-clause-restarted_member
returns-clause-restarted_member c = restarted_member

pub returns-clause-delay_of_four : goal.returns-clause-delay_of_four
returns-clause-delay_of_four c = delay_of_four

pub returns-clause-used_store : goal.returns-clause-used_store
returns-clause-used_store c = used_store
