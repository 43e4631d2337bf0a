-- Worked examples of what networks output, and of their weight.
use Rattle.std.specs.Prelude.{◌≡◌, ℕ, zero, suc, ◌<◌, pos, negsuc, true, false, List, [], ◌∷◌, map}
use Rattle.sample_core.specs.Datum.{Datum, unit, bool, int, pair, no_event, event, list, list_of}
use Rattle.sample_core.specs.TypeTree.{unit_ty, int_ty}
use Rattle.leaf_core.specs.Expression.{Expression, input, param, unit_expr, bool_expr, int_expr, pair_expr, fst, snd, neg, add, mul, less, equal, not_expr, and_expr, if_expr, no_event_expr, event_expr, list_expr, expressions_of}
use Rattle.net_meaning.specs.SignalFunction.{TimedList}
use Rattle.net_tree.specs.Network.{Network, arr, seq, first, par, loop_pre, initial_out, initial_in, i_pre, delay, hold, accum_by, after, repeatedly, time, integral, at_once, delayed, switch, r_switch, rp_switch, k_switch, p_switch, old, networks_of}
use Rattle.net_tree.specs.Height.{height}
use Rattle.net_tree.specs.Weight.{weight}
use Rattle.net_meaning.specs.TypedNetwork.{stream_of}

-- the number k as a value
abbrev pub n : ℕ → Datum
n k = int (pos k)

-- the number -k as a value
abbrev pub minus : ℕ → Datum
minus zero = int (pos 0)
minus (suc k) = int (negsuc k)

-- the number k as an expression
abbrev pub num : ℕ → Expression
num k = int_expr (pos k)

-- `(arr (pair x (if (less 9 x) (event x) (none Int))))`: the input, and an event with it where it
-- is above nine
abbrev pub above_nine : Network Expression
above_nine =
    arr (pair_expr input (if_expr (less (num 9) input) (event_expr input) (no_event_expr int_ty)))

-- `(arr (add x (p 0)))`
abbrev pub add_param : Network Expression
add_param = arr (add input (param 0))

-- `(arr (if (equal (fst x) k) (event unit) (none Unit)))`: an event where the left part is k
abbrev pub at_left : ℕ → Network Expression
at_left k = arr (if_expr (equal (fst input) (num k)) (event_expr unit_expr) (no_event_expr unit_ty))

-- 1, 20, 3, a step of 1 between them
abbrev pub one_then_twenty : TimedList
one_then_twenty = (0, n 1) ∷ (1, n 20) ∷ (1, n 3) ∷ []

-- the times 0, 4, 9, 15, 22, 23; the third value is 1, the fifth 2
abbrev pub six_samples : TimedList
six_samples = (0, n 0) ∷ (4, n 0) ∷ (5, n 1) ∷ (6, n 0) ∷ (7, n 2) ∷ (1, n 0) ∷ []

-- `(>>> (arr (add x 1)) (iPre 0))`
abbrev pub add_then_delay : Network Expression
add_then_delay = seq (arr (add input (num 1))) (i_pre (num 0))

-- on 5, 6, 7
abbrev pub AddThenDelay : Type 0
AddThenDelay = stream_of add_then_delay ((0, n 5) ∷ (1, n 6) ∷ (1, n 7) ∷ []) ≡ n 0 ∷ n 6 ∷ n 7 ∷ []

-- on no samples, no outputs
abbrev pub OnNothing : Type 0
OnNothing = stream_of add_then_delay [] ≡ []

-- `(arr (add x 1))` on the greatest number gives the least
abbrev pub AddWraps : Type 0
AddWraps = stream_of (arr (add input (num 1))) ((0, n 9223372036854775807) ∷ [])
    ≡ minus 9223372036854775808 ∷ []

-- `(repeatedly 3 unit)` at the times 0, 2, 4, 11, 12
abbrev pub RepeatedlyByTime : Type 0
RepeatedlyByTime = stream_of (repeatedly 3 unit_expr)
    ((0, unit) ∷ (2, unit) ∷ (2, unit) ∷ (7, unit) ∷ (1, unit) ∷ []) ≡ no_event ∷ no_event
    ∷ event unit ∷ event unit ∷ event unit ∷ []

-- `(after 5 7)`, once 5 is passed
abbrev pub AfterOnce : Type 0
AfterOnce = stream_of (after 5 (num 7)) ((0, unit) ∷ (9223372036854775807, unit) ∷ (1, unit) ∷ [])
    ≡ no_event ∷ event (n 7) ∷ no_event ∷ []

-- `(after 0 7)`, at once, whatever the first step
abbrev pub AfterAtOnce : Type 0
AfterAtOnce = stream_of (after 0 (num 7)) ((4, unit) ∷ []) ≡ event (n 7) ∷ []

-- `time` wraps
abbrev pub TimeWraps : Type 0
TimeWraps =
    stream_of time ((0, unit) ∷ (9223372036854775807, unit) ∷ (9223372036854775807, unit) ∷ [])
    ≡ n 0 ∷ n 9223372036854775807 ∷ minus 2 ∷ []

-- `switch` outputs its continuation at the event's sample
abbrev pub SwitchAtOnce : Type 0
SwitchAtOnce = stream_of (switch at_once above_nine add_param) one_then_twenty ≡ n 1 ∷ n 40 ∷ n 23 ∷ []

-- `dSwitch` puts it out from the sample after
abbrev pub SwitchLate : Type 0
SwitchLate = stream_of (switch delayed above_nine add_param) one_then_twenty ≡ n 1 ∷ n 20 ∷ n 23 ∷ []

-- but starts it at the event's sample
abbrev pub StartedAtTheEvent : Type 0
StartedAtTheEvent = stream_of (switch delayed above_nine time) one_then_twenty ≡ n 1 ∷ n 20 ∷ n 1 ∷ []

-- `(switch F (switch (arr (pair x (event (neg (p 0))))) (arr (add x (p 1)))))`: two switches in one
-- sample
abbrev pub switch_twice : Network Expression
switch_twice = switch at_once above_nine
    (switch at_once (arr (pair_expr input (event_expr (neg (param 0))))) (arr (add input (param 1))))

-- 3 added to -20
abbrev pub SwitchTwice : Type 0
SwitchTwice = stream_of switch_twice one_then_twenty ≡ n 1 ∷ n 0 ∷ minus 17 ∷ []

-- it weighs 5
abbrev pub SwitchTwiceWeight : Type 0
SwitchTwiceWeight = weight switch_twice [] ≡ 5

-- `(rSwitch (iPre 0) (iPre (p 0)))`
abbrev pub restart : Network Expression
restart = r_switch at_once (i_pre (num 0)) (i_pre (param 0))

-- each event starts the continuation anew
abbrev pub RestartAtEvents : Type 0
RestartAtEvents = stream_of restart
    ((0, pair (n 5) no_event) ∷ (1, pair (n 6) (event (n 9))) ∷ (1, pair (n 7) (event (n 8)))
    ∷ (1, pair (n 4) no_event) ∷ []) ≡ n 0 ∷ n 9 ∷ n 8 ∷ n 7 ∷ []

-- also one at the first sample
abbrev pub RestartAtTheFirst : Type 0
RestartAtTheFirst = stream_of restart
    ((0, pair (n 5) (event (n 3))) ∷ (1, pair (n 6) no_event) ∷ []) ≡ n 3 ∷ n 5 ∷ []

-- `(kSwitch time E (switch (arr (pair -1 (if (equal x 2) (event unit) (none Unit)))) (old 0)))`
abbrev pub freeze_clock : Network Expression
freeze_clock = k_switch time (at_left 1)
    (switch at_once
    (arr
    (pair_expr (int_expr (negsuc 0))
    (if_expr (equal input (num 2)) (event_expr unit_expr) (no_event_expr unit_ty)))) (old 0))

-- the clock stands while it is frozen, and goes on with the step that it was frozen with
abbrev pub FreezeClock : Type 0
FreezeClock = stream_of freeze_clock six_samples ≡ n 0 ∷ n 4 ∷ minus 1 ∷ minus 1 ∷ n 9 ∷ n 10 ∷ []

-- `(kSwitch time E (old 0))` outputs what `time` does
abbrev pub FreezeAndResume : Type 0
FreezeAndResume = stream_of (k_switch time (at_left 1) (old 0)) six_samples
    ≡ stream_of time six_samples

-- `time`
abbrev pub ClockOfSix : Type 0
ClockOfSix = stream_of time six_samples ≡ n 0 ∷ n 4 ∷ n 9 ∷ n 15 ∷ n 22 ∷ n 23 ∷ []

-- `(pSwitch (fst x) (col time integral) E (parB (old 1) (old 0)))`
abbrev pub swap_members : Network Expression
swap_members = p_switch (fst input) (networks_of (time ∷ integral ∷ [])) (at_left 7)
    (par (networks_of (old 1 ∷ old 0 ∷ [])))

-- a list value of two numbers
abbrev pub two : ℕ → ℕ → Datum
two j k = list (list_of (n j ∷ n k ∷ []))

-- the members change places, and go on from where they were frozen
abbrev pub SwapMembers : Type 0
SwapMembers = stream_of swap_members ((0, n 2) ∷ (3, n 2) ∷ (4, n 7) ∷ (1, n 0) ∷ []) ≡ two 0 0
    ∷ two 3 6 ∷ two 14 7 ∷ two 21 8 ∷ []

-- `(delay 3 0)` at the times 0, 2, 4, 6
abbrev pub DelayByTime : Type 0
DelayByTime = stream_of (delay 3 (num 0)) ((0, n 1) ∷ (2, n 2) ∷ (2, n 3) ∷ (2, n 4) ∷ []) ≡ n 0
    ∷ n 0 ∷ n 1 ∷ n 2 ∷ []

-- at the times 0, 1, 9, 10, 12: two samples are due at once, and then none for long
abbrev pub DelayOfMany : Type 0
DelayOfMany = stream_of (delay 3 (num 0))
    ((0, n 1) ∷ (1, n 2) ∷ (8, n 3) ∷ (1, n 4) ∷ (2, n 5) ∷ []) ≡ n 0 ∷ n 0 ∷ n 2 ∷ n 2 ∷ n 3 ∷ []

-- `integral` wraps
abbrev pub IntegralWraps : Type 0
IntegralWraps = stream_of integral ((0, n 9223372036854775807) ∷ (2, n 0) ∷ []) ≡ n 0 ∷ minus 2 ∷ []

-- `(rSwitch time time)`: at each event the clock starts anew
abbrev pub RestartClock : Type 0
RestartClock = stream_of (r_switch at_once time time)
    ((0, pair unit no_event) ∷ (4, pair unit no_event) ∷ (5, pair unit (event unit))
    ∷ (6, pair unit no_event) ∷ (7, pair unit (event unit)) ∷ (1, pair unit no_event) ∷ []) ≡ n 0
    ∷ n 4 ∷ n 0 ∷ n 6 ∷ n 0 ∷ n 1 ∷ []

-- `(add (fst x) (snd x))`
abbrev pub both_parts : Expression
both_parts = add (fst input) (snd input)

-- `(loopPre 0 (arr (pair S S)))`, S that sum: the sums so far
abbrev pub SumsFedBack : Type 0
SumsFedBack = stream_of (loop_pre (num 0) (arr (pair_expr both_parts both_parts)))
    ((0, n 1) ∷ (1, n 2) ∷ (1, n 3) ∷ []) ≡ n 1 ∷ n 3 ∷ n 6 ∷ []

-- `(accumBy (add (fst x) (snd x)) 10)` has no event where its input has none
abbrev pub SumsAtEvents : Type 0
SumsAtEvents = stream_of (accum_by both_parts (num 10))
    ((0, no_event) ∷ (1, event (n 5)) ∷ (1, no_event) ∷ (1, event (n 1)) ∷ []) ≡ no_event
    ∷ event (n 15) ∷ no_event ∷ event (n 16) ∷ []

-- `(accumHoldBy (add (fst x) (snd x)) 10)` in its core forms
abbrev pub SumsHeld : Type 0
SumsHeld = stream_of (seq (accum_by both_parts (num 10)) (hold (num 10)))
    ((0, no_event) ∷ (1, event (n 5)) ∷ (1, no_event) ∷ (1, event (n 1)) ∷ []) ≡ n 10 ∷ n 15 ∷ n 15
    ∷ n 16 ∷ []

-- the parts of a pair change places
abbrev pub swap : Network Expression
swap = arr (pair_expr (snd input) (fst input))

-- `(second f)` in its core forms
abbrev pub second : Network Expression → Network Expression
second f = seq swap (seq (first f) swap)

-- `edge` in its core forms
abbrev pub edge : Network Expression
edge =
    seq
    (seq (arr (pair_expr input input)) (seq (first (arr input)) (second (i_pre (bool_expr true)))))
    (arr
    (if_expr (and_expr (fst input) (not_expr (snd input))) (event_expr unit_expr)
    (no_event_expr unit_ty)))

-- an event where the input becomes true
abbrev pub EdgeAtTrue : Type 0
EdgeAtTrue = stream_of edge ((0, bool true) ∷ (1, bool false) ∷ (1, bool true) ∷ []) ≡ no_event
    ∷ no_event ∷ event unit ∷ []

-- `(arr (none Unit))`
abbrev pub never_event : Network Expression
never_event = arr (no_event_expr unit_ty)

-- `(pSwitch (add (fst x) (mul 10 (snd x))) (col f f) E (parB g ..))`: to each member ten more than
-- to the one before
abbrev pub routed_by_number : Network Expression → Network Expression → List (Network Expression)
    → Network Expression
routed_by_number f e gs =
    p_switch (add (fst input) (mul (num 10) (snd input))) (networks_of (f ∷ f ∷ [])) e
    (par (networks_of gs))

-- a member's number is counted from 0
abbrev pub MemberNumbers : Type 0
MemberNumbers = stream_of (routed_by_number (arr input) never_event (old 0 ∷ old 1 ∷ []))
    ((0, n 5) ∷ []) ≡ two 5 15 ∷ []

-- what is frozen has seen what was routed to it, and once resumed gets the input itself
abbrev pub RoutedPasts : Type 0
RoutedPasts = stream_of
    (routed_by_number (i_pre (num 0)) (at_left 7) (old 1 ∷ old 0 ∷ []))
    ((0, n 5) ∷ (1, n 7) ∷ (1, n 5) ∷ []) ≡ two 0 0 ∷ two 15 5 ∷ two 7 7 ∷ []

-- `(--> 7 time)`
abbrev pub FirstOutput : Type 0
FirstOutput = stream_of (initial_out (num 7) time) ((0, n 0) ∷ (2, n 0) ∷ (3, n 0) ∷ []) ≡ n 7
    ∷ n 2 ∷ n 5 ∷ []

-- `(>-- 9 (iPre 0))`
abbrev pub FirstInput : Type 0
FirstInput = stream_of (initial_in (num 9) (i_pre (num 0)))
    ((0, n 1) ∷ (1, n 2) ∷ (1, n 3) ∷ []) ≡ n 0 ∷ n 9 ∷ n 2 ∷ []

-- events at the second and the third of four samples
abbrev pub two_events : TimedList
two_events = (0, pair (n 5) no_event) ∷ (1, pair (n 6) (event (n 9)))
    ∷ (1, pair (n 7) (event (n 8))) ∷ (1, pair (n 4) no_event) ∷ []

-- `(drSwitch (iPre 0) (iPre (p 0)))`
abbrev pub restart_late : Network Expression
restart_late = r_switch delayed (i_pre (num 0)) (i_pre (param 0))

-- at each event what ran before still outputs
abbrev pub RestartLate : Type 0
RestartLate = stream_of restart_late two_events ≡ n 0 ∷ n 5 ∷ n 6 ∷ n 7 ∷ []

-- also at one at the first sample
abbrev pub RestartLateAtFirst : Type 0
RestartLateAtFirst = stream_of restart_late
    ((0, pair (n 5) (event (n 3))) ∷ (1, pair (n 6) no_event) ∷ []) ≡ n 0 ∷ n 5 ∷ []

-- it weighs 4: both an old and a new continuation may run
abbrev pub RestartLateWeight : Type 0
RestartLateWeight = weight restart_late [] ≡ 4

-- `(drSwitch (iPre 0) (>>> (arr x) (iPre (p 0))))`
abbrev pub restart_two_late : Network Expression
restart_two_late = r_switch delayed (i_pre (num 0)) (seq (arr input) (i_pre (param 0)))

-- the same outputs
abbrev pub RestartTwoLate : Type 0
RestartTwoLate = stream_of restart_two_late two_events ≡ n 0 ∷ n 5 ∷ n 6 ∷ n 7 ∷ []

-- it weighs 8
abbrev pub RestartTwoLateWeight : Type 0
RestartTwoLateWeight = weight restart_two_late [] ≡ 8

-- a list value of these numbers
abbrev pub numbers : List ℕ → Datum
numbers ks = list (list_of (map n ks))

-- `(list Int e ..)`
abbrev pub int_list : List Expression → Expression
int_list es = list_expr int_ty (expressions_of es)

-- `(rpSwitchB (col integral) (pair (list Int 0 0 5) (list Int x)) (iPre (p 0)))`
abbrev pub collection : Network Expression
collection = rp_switch (networks_of (integral ∷ []))
    (pair_expr (int_list (num 0 ∷ num 0 ∷ num 5 ∷ [])) (int_list (input ∷ []))) (i_pre (param 0))

-- the member goes on twice, a number outside names none, and a new one starts
abbrev pub Collection : Type 0
Collection = stream_of collection
    ((0, pair (n 2) no_event) ∷ (3, pair (n 4) (event (n 9))) ∷ (1, pair (n 5) no_event) ∷ [])
    ≡ numbers (0 ∷ []) ∷ numbers (6 ∷ 6 ∷ 9 ∷ []) ∷ numbers (10 ∷ 10 ∷ 4 ∷ []) ∷ []

-- it weighs 65: each of 64 members at most 1
abbrev pub CollectionWeight : Type 0
CollectionWeight = weight collection [] ≡ 65

-- its height
abbrev pub CollectionHeight : Type 0
CollectionHeight = height collection [] ≡ 2

-- `(rpSwitchB (col time) (pair (list Int) (list Int)) time)`: no member is left
abbrev pub CollectionEmpty : Type 0
CollectionEmpty = stream_of (rp_switch (networks_of (time ∷ []))
    (pair_expr (int_list []) (int_list [])) time)
    ((0, pair (n 2) no_event) ∷ (1, pair (n 2) (event (n 0))) ∷ (1, pair (n 2) no_event) ∷ [])
    ≡ numbers (0 ∷ []) ∷ numbers [] ∷ numbers [] ∷ []

-- so many of one
abbrev pub times_of : ℕ → ℕ → List ℕ
times_of zero k = []
times_of (suc m) k = k ∷ times_of m k

-- `(rpSwitchB (col (arr x)) (pair x (list Int)) (arr x))`: of 65 chosen members 64 run
abbrev pub CollectionFull : Type 0
CollectionFull = stream_of (rp_switch (networks_of (arr input ∷ []))
    (pair_expr input (int_list [])) (arr input))
    ((0, pair (n 7) (event (numbers (times_of 65 0)))) ∷ [])
    ≡ numbers (times_of 64 7) ∷ []

-- m times `(kSwitch (>>> (old k) (old k)) E ..)`, k one more each time, then the last network
abbrev pub doubled : ℕ → ℕ → Network Expression → Network Expression
doubled zero k last = last
doubled (suc m) k last = k_switch (seq (old k) (old k)) never_event (doubled m (suc k) last)

-- f and the further networks, nested to the right in `>>>`
abbrev pub in_sequence : Network Expression → List (Network Expression) → Network Expression
in_sequence f [] = f
in_sequence f (g ∷ gs) = seq f (in_sequence g gs)

-- some frozen networks, and then the networks gs
abbrev pub olds_then : List (Network Expression) → Network Expression
olds_then gs = in_sequence (old 16) (old 15 ∷ old 14 ∷ old 12 ∷ old 7 ∷ old 4 ∷ old 2 ∷ old 1 ∷ gs)

-- each nesting doubles the weight: the heaviest network within the limit
abbrev pub heaviest : Network Expression
heaviest =
    k_switch (arr input) never_event
    (doubled 16 0 (olds_then (arr input ∷ arr input ∷ arr input ∷ [])))

-- its weight is the limit
abbrev pub HeaviestWithin : Type 0
HeaviestWithin = weight heaviest [] ≡ 1000000

-- its height
abbrev pub HeaviestHeight : Type 0
HeaviestHeight = height heaviest [] ≡ 52

-- one that is just past the limit
abbrev pub JustTooHeavy : Type 0
JustTooHeavy =
    weight
    (k_switch (arr input) never_event
    (doubled 16 0 (olds_then (arr input ∷ arr input ∷ arr input ∷ arr input ∷ [])))) [] ≡ 1000002

-- one that is past the limit by its nesting alone
abbrev pub TooHeavy : Type 0
TooHeavy = 1000000 < weight (k_switch (arr input) never_event (doubled 19 0 (old 19))) []
