-- The worked examples, each by computing.
use Rattle.std.proofs.Common.{refl, arith}
use Rattle.std.specs.Int.{int_wrap}
use Rattle.net_meaning.specs.Examples.{AddThenDelay, OnNothing, AddWraps, RepeatedlyByTime, AfterOnce, AfterAtOnce, TimeWraps, SwitchAtOnce, SwitchLate, StartedAtTheEvent, SwitchTwice, SwitchTwiceWeight, RestartAtEvents, RestartAtTheFirst, FreezeClock, FreezeAndResume, ClockOfSix, SwapMembers, DelayByTime, SumsFedBack, SumsHeld, EdgeAtTrue, MemberNumbers, RoutedPasts, DelayOfMany, IntegralWraps, RestartClock, SumsAtEvents, HeaviestWithin, HeaviestHeight, JustTooHeavy, TooHeavy, FirstOutput, FirstInput, RestartLate, RestartLateAtFirst, RestartTwoLate, Collection, CollectionEmpty, CollectionFull, RestartLateWeight, RestartTwoLateWeight, CollectionWeight, CollectionHeight}
use Rattle.net_meaning.specs.GoingOn.{RestartAtEach, ChooseAndStart, RestartedCollection, ResumedOpenings, OpeningsFrozenFirst, LateUnder, ResumedCollection, ResumedTwice, RestartedMember, RestartAtEachWeight, ChooseAndStartWeight, RestartedCollectionWeight, ResumedOpeningsWeight, LateUnderWeight, ResumedCollectionWeight, ResumedTwiceWeight, RestartedMemberWeight}

pub add_then_delay : AddThenDelay
unfolding int_wrap
add_then_delay = refl

pub on_nothing : OnNothing
unfolding int_wrap
on_nothing = refl

pub add_wraps : AddWraps
unfolding int_wrap
add_wraps = refl

pub repeatedly_by_time : RepeatedlyByTime
unfolding int_wrap
repeatedly_by_time = refl

pub after_once : AfterOnce
unfolding int_wrap
after_once = refl

pub after_at_once : AfterAtOnce
unfolding int_wrap
after_at_once = refl

pub time_wraps : TimeWraps
unfolding int_wrap
time_wraps = refl

pub switch_at_once : SwitchAtOnce
unfolding int_wrap
switch_at_once = refl

pub switch_late : SwitchLate
unfolding int_wrap
switch_late = refl

pub started_at_the_event : StartedAtTheEvent
unfolding int_wrap
started_at_the_event = refl

pub switch_twice : SwitchTwice
unfolding int_wrap
switch_twice = refl

pub switch_twice_weight : SwitchTwiceWeight
unfolding int_wrap
switch_twice_weight = refl

pub restart_at_events : RestartAtEvents
unfolding int_wrap
restart_at_events = refl

pub restart_at_the_first : RestartAtTheFirst
unfolding int_wrap
restart_at_the_first = refl

pub freeze_clock : FreezeClock
unfolding int_wrap
freeze_clock = refl

pub freeze_and_resume : FreezeAndResume
unfolding int_wrap
freeze_and_resume = refl

pub clock_of_six : ClockOfSix
unfolding int_wrap
clock_of_six = refl

pub swap_members : SwapMembers
unfolding int_wrap
swap_members = refl

pub delay_by_time : DelayByTime
unfolding int_wrap
delay_by_time = refl

pub delay_of_many : DelayOfMany
unfolding int_wrap
delay_of_many = refl

pub integral_wraps : IntegralWraps
unfolding int_wrap
integral_wraps = refl

pub restart_clock : RestartClock
unfolding int_wrap
restart_clock = refl

pub sums_fed_back : SumsFedBack
unfolding int_wrap
sums_fed_back = refl

pub sums_at_events : SumsAtEvents
unfolding int_wrap
sums_at_events = refl

pub sums_held : SumsHeld
unfolding int_wrap
sums_held = refl

pub edge_at_true : EdgeAtTrue
unfolding int_wrap
edge_at_true = refl

pub member_numbers : MemberNumbers
unfolding int_wrap
member_numbers = refl

pub routed_pasts : RoutedPasts
unfolding int_wrap
routed_pasts = refl

pub heaviest_within : HeaviestWithin
heaviest_within = refl

pub heaviest_height : HeaviestHeight
heaviest_height = refl

pub just_too_heavy : JustTooHeavy
just_too_heavy = refl

pub too_heavy : TooHeavy
too_heavy = omega arith

pub first_output : FirstOutput
unfolding int_wrap
first_output = refl

pub first_input : FirstInput
unfolding int_wrap
first_input = refl

pub restart_late : RestartLate
unfolding int_wrap
restart_late = refl

pub restart_late_at_first : RestartLateAtFirst
unfolding int_wrap
restart_late_at_first = refl

pub restart_two_late : RestartTwoLate
unfolding int_wrap
restart_two_late = refl

pub collection : Collection
unfolding int_wrap
collection = refl

pub collection_empty : CollectionEmpty
unfolding int_wrap
collection_empty = refl

pub collection_full : CollectionFull
unfolding int_wrap
collection_full = refl

pub restart_late_weight : RestartLateWeight
unfolding int_wrap
restart_late_weight = refl

pub restart_two_late_weight : RestartTwoLateWeight
unfolding int_wrap
restart_two_late_weight = refl

pub collection_weight : CollectionWeight
unfolding int_wrap
collection_weight = refl

pub collection_height : CollectionHeight
unfolding int_wrap
collection_height = refl

pub restart_at_each : RestartAtEach
unfolding int_wrap
restart_at_each = refl

pub choose_and_start : ChooseAndStart
unfolding int_wrap
choose_and_start = refl

pub restarted_collection : RestartedCollection
unfolding int_wrap
restarted_collection = refl

pub resumed_openings : ResumedOpenings
unfolding int_wrap
resumed_openings = refl

pub openings_frozen_first : OpeningsFrozenFirst
unfolding int_wrap
openings_frozen_first = refl

pub late_under : LateUnder
unfolding int_wrap
late_under = refl

pub resumed_collection : ResumedCollection
unfolding int_wrap
resumed_collection = refl

pub resumed_twice : ResumedTwice
unfolding int_wrap
resumed_twice = refl

pub restarted_member : RestartedMember
unfolding int_wrap
restarted_member = refl

pub restart_at_each_weight : RestartAtEachWeight
unfolding int_wrap
restart_at_each_weight = refl

pub choose_and_start_weight : ChooseAndStartWeight
unfolding int_wrap
choose_and_start_weight = refl

pub restarted_collection_weight : RestartedCollectionWeight
unfolding int_wrap
restarted_collection_weight = refl

pub resumed_openings_weight : ResumedOpeningsWeight
unfolding int_wrap
resumed_openings_weight = refl

pub late_under_weight : LateUnderWeight
unfolding int_wrap
late_under_weight = refl

pub resumed_collection_weight : ResumedCollectionWeight
unfolding int_wrap
resumed_collection_weight = refl

pub resumed_twice_weight : ResumedTwiceWeight
unfolding int_wrap
resumed_twice_weight = refl

pub restarted_member_weight : RestartedMemberWeight
unfolding int_wrap
restarted_member_weight = refl
