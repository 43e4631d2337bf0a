use Rattle.net_meaning.proofs.Computed.{switch_twice_weight, heaviest_within, heaviest_height, just_too_heavy, too_heavy, restart_late_weight, restart_two_late_weight, collection_weight, collection_height, restart_at_each_weight, choose_and_start_weight, restarted_collection_weight, resumed_openings_weight, late_under_weight, resumed_collection_weight, resumed_twice_weight, restarted_member_weight}
use Rattle.net_meaning.proofs.laws.weight_examples.Goals as goal

pub returns-clause-switch_twice_weight : goal.returns-clause-switch_twice_weight
returns-clause-switch_twice_weight c = switch_twice_weight

pub returns-clause-heaviest_within : goal.returns-clause-heaviest_within
returns-clause-heaviest_within c = heaviest_within

pub returns-clause-heaviest_height : goal.returns-clause-heaviest_height
returns-clause-heaviest_height c = heaviest_height

pub returns-clause-just_too_heavy : goal.returns-clause-just_too_heavy
returns-clause-just_too_heavy c = just_too_heavy

pub returns-clause-too_heavy : goal.returns-clause-too_heavy
returns-clause-too_heavy c = too_heavy

pub returns-clause-restart_late_weight : goal.returns-clause-restart_late_weight
returns-clause-restart_late_weight c = restart_late_weight

pub returns-clause-restart_two_late_weight : goal.returns-clause-restart_two_late_weight
returns-clause-restart_two_late_weight c = restart_two_late_weight

pub returns-clause-collection_weight : goal.returns-clause-collection_weight
returns-clause-collection_weight c = collection_weight

pub returns-clause-collection_height : goal.returns-clause-collection_height
returns-clause-collection_height c = collection_height

pub returns-clause-restart_at_each_weight : goal.returns-clause-restart_at_each_weight
returns-clause-restart_at_each_weight c = restart_at_each_weight

pub returns-clause-choose_and_start_weight : goal.returns-clause-choose_and_start_weight
returns-clause-choose_and_start_weight c = choose_and_start_weight

pub returns-clause-restarted_collection_weight : goal.returns-clause-restarted_collection_weight
returns-clause-restarted_collection_weight c = restarted_collection_weight

pub returns-clause-resumed_openings_weight : goal.returns-clause-resumed_openings_weight
returns-clause-resumed_openings_weight c = resumed_openings_weight

pub returns-clause-late_under_weight : goal.returns-clause-late_under_weight
returns-clause-late_under_weight c = late_under_weight

pub returns-clause-resumed_collection_weight : goal.returns-clause-resumed_collection_weight
returns-clause-resumed_collection_weight c = resumed_collection_weight

pub returns-clause-resumed_twice_weight : goal.returns-clause-resumed_twice_weight
returns-clause-resumed_twice_weight c = resumed_twice_weight

pub returns-clause-restarted_member_weight : goal.returns-clause-restarted_member_weight
returns-clause-restarted_member_weight c = restarted_member_weight
