-- Worked examples of networks that go on, start anew or are resumed, in one another.
use Rattle.std.specs.Prelude.{◌≡◌, ℕ, negsuc, List, [], ◌∷◌}
use Rattle.sample_core.specs.Datum.{Datum, pair, no_event, event, list, list_of}
use Rattle.sample_core.specs.TypeTree.{unit_ty, int_ty}
use Rattle.leaf_core.specs.Expression.{Expression, input, param, unit_expr, int_expr, pair_expr, fst, add, mul, less, equal, if_expr, no_event_expr, event_expr, nth}
use Rattle.net_tree.specs.Network.{Network, arr, seq, par, initial_out, initial_in, i_pre, time, integral, at_once, delayed, switch, r_switch, rp_switch, k_switch, old, networks_of}
use Rattle.net_tree.specs.Weight.{weight}
use Rattle.net_meaning.specs.TypedNetwork.{stream_of}
use Rattle.net_meaning.specs.Examples.{n, minus, num, add_param, numbers, int_list}

-- a value without an event
abbrev pub quiet : ℕ → Datum
quiet k = pair (n k) no_event

-- a value with an event of a number
abbrev pub with_event : ℕ → ℕ → Datum
with_event k c = pair (n k) (event (n c))

-- `(drSwitch (arr (mul x 10)) (>>> (arr (add x (p 0))) (iPre (p 0))))`
abbrev pub restart_at_each : Network Expression
restart_at_each = r_switch delayed (arr (mul input (num 10))) (seq add_param (i_pre (param 0)))

-- events at three samples, also at the first
abbrev pub RestartAtEach : Type 0
RestartAtEach = stream_of restart_at_each
    ((0, with_event 1 100) ∷ (1, with_event 2 200) ∷ (1, with_event 3 300) ∷ (1, quiet 4) ∷ [])
    ≡ n 10 ∷ n 101 ∷ n 202 ∷ n 303 ∷ []

-- it weighs 8
abbrev pub RestartAtEachWeight : Type 0
RestartAtEachWeight = weight restart_at_each [] ≡ 8

-- `(rpSwitchB (col integral (iPre 7)) (pair x (list Int 5)) (--> (p 0) integral))`
abbrev pub choose_and_start : Network Expression
choose_and_start = rp_switch (networks_of (integral ∷ i_pre (num 7) ∷ []))
    (pair_expr input (int_list (num 5 ∷ []))) (initial_out (param 0) integral)

-- a value with an event of these numbers
abbrev pub choosing : ℕ → List Datum → Datum
choosing k cs = pair (n k) (event (list (list_of cs)))

-- members go on many times, numbers outside name none, and pieces have one sample
abbrev pub ChooseAndStart : Type 0
ChooseAndStart = stream_of choose_and_start
    ((0, choosing 2 (n 1 ∷ n 1 ∷ n 0 ∷ n 2 ∷ minus 1 ∷ n 4294967296 ∷ [])) ∷ (3, quiet 4)
    ∷ (5, choosing 6 (n 3 ∷ n 0 ∷ n 3 ∷ [])) ∷ (7, choosing 8 (n 9223372036854775807 ∷ n 4 ∷ []))
    ∷ (1, choosing 1 []) ∷ (2, quiet 3) ∷ [])
    ≡ numbers (7 ∷ 7 ∷ 0 ∷ 5 ∷ []) ∷ numbers (2 ∷ 2 ∷ 6 ∷ 6 ∷ [])
    ∷ numbers (26 ∷ 4 ∷ 26 ∷ 5 ∷ []) ∷ numbers (5 ∷ []) ∷ numbers (5 ∷ []) ∷ numbers (2 ∷ []) ∷ []

-- it weighs 129
abbrev pub ChooseAndStartWeight : Type 0
ChooseAndStartWeight = weight choose_and_start [] ≡ 129

-- `(rpSwitchB (col (arr (add x (p 0)))) (pair (list Int 0) (list Int (mul x (p 0))))
-- (arr (add (p 0) (mul 1000 (p 1)))))`
abbrev pub collect_under : Network Expression
collect_under = rp_switch (networks_of (add_param ∷ []))
    (pair_expr (int_list (num 0 ∷ [])) (int_list (mul input (param 0) ∷ [])))
    (arr (add (param 0) (mul (num 1000) (param 1))))

-- `(rSwitch (arr x) (>>> (arr (pair (add x (p 0)) (if (less x 5) (event x) (none Int))))
-- (>>> C (arr (nth x 1 -1)))))`, C the collection
abbrev pub restarted_collection : Network Expression
restarted_collection =
    r_switch at_once (arr input)
    (seq
    (arr
    (pair_expr (add input (param 0))
    (if_expr (less input (num 5)) (event_expr input) (no_event_expr int_ty))))
    (seq collect_under (arr (nth input (num 1) (int_expr (negsuc 0))))))

-- what chooses, what goes on and what starts have their own parameters
abbrev pub RestartedCollection : Type 0
RestartedCollection = stream_of restarted_collection
    ((0, quiet 9) ∷ (1, with_event 3 2) ∷ (1, quiet 7) ∷ (1, quiet 4) ∷ (1, with_event 4 5)
    ∷ (1, quiet 6) ∷ []) ≡ n 9 ∷ n 6002 ∷ n 6002 ∷ n 8002 ∷ n 20005 ∷ n 20005 ∷ []

-- it weighs 71
abbrev pub RestartedCollectionWeight : Type 0
RestartedCollectionWeight = weight restarted_collection [] ≡ 71

-- `(kSwitch (--> 7 (>-- 100 integral)) E (--> (p 0) (>>> (old 0) (--> 55 (arr x)))))`, E an event of
-- the input where that is over 8
abbrev pub resumed_openings : Network Expression
resumed_openings =
    k_switch (initial_out (num 7) (initial_in (num 100) integral))
    (arr (if_expr (less (num 8) (fst input)) (event_expr (fst input)) (no_event_expr int_ty)))
    (initial_out (param 0) (seq (old 0) (initial_out (num 55) (arr input))))

-- once it has started, `-->` doesn't come again where it is resumed
abbrev pub ResumedOpenings : Type 0
ResumedOpenings = stream_of resumed_openings
    ((0, n 1) ∷ (2, n 2) ∷ (3, n 9) ∷ (4, n 5) ∷ []) ≡ n 7 ∷ n 200 ∷ n 9 ∷ n 242 ∷ []

-- frozen before it has started, it starts where it is resumed
abbrev pub OpeningsFrozenFirst : Type 0
OpeningsFrozenFirst = stream_of resumed_openings ((0, n 9) ∷ (3, n 3) ∷ (4, n 5) ∷ [])
    ≡ n 9 ∷ n 300 ∷ n 312 ∷ []

-- it weighs 13
abbrev pub ResumedOpeningsWeight : Type 0
ResumedOpeningsWeight = weight resumed_openings [] ≡ 13

-- `(switch (arr (pair (fst x) (event 4))) (drSwitch (arr (add x (p 0)))
-- (arr (add (mul 100 (p 1)) (add x (p 0))))))`
abbrev pub late_under : Network Expression
late_under =
    switch at_once (arr (pair_expr (fst input) (event_expr (num 4))))
    (r_switch delayed add_param (arr (add (mul (num 100) (param 1)) (add input (param 0)))))

-- what starts has the outer value and its own
abbrev pub LateUnder : Type 0
LateUnder = stream_of late_under
    ((0, with_event 1 3) ∷ (1, quiet 2) ∷ (1, with_event 3 5) ∷ (1, quiet 4) ∷ [])
    ≡ n 5 ∷ n 306 ∷ n 307 ∷ n 508 ∷ []

-- it weighs 6
abbrev pub LateUnderWeight : Type 0
LateUnderWeight = weight late_under [] ≡ 6

-- an event where the value of the watched network's input is 7
abbrev pub at_seven : Network Expression
at_seven =
    arr
    (if_expr (equal (fst (fst input)) (num 7)) (event_expr unit_expr) (no_event_expr unit_ty))

-- `(kSwitch (rpSwitchB (col integral) (pair (list Int 0) (list Int x)) (iPre (p 0))) E (old 0))`
abbrev pub resumed_collection : Network Expression
resumed_collection =
    k_switch
    (rp_switch (networks_of (integral ∷ []))
    (pair_expr (int_list (num 0 ∷ [])) (int_list (input ∷ []))) (i_pre (param 0))) at_seven (old 0)

-- resumed at an event: the member goes on with the step that the whole was frozen with
abbrev pub ResumedCollection : Type 0
ResumedCollection = stream_of resumed_collection
    ((0, quiet 1) ∷ (2, with_event 2 50) ∷ (3, with_event 7 60) ∷ (4, quiet 9) ∷ [])
    ≡ numbers (0 ∷ []) ∷ numbers (2 ∷ 50 ∷ []) ∷ numbers (8 ∷ 60 ∷ []) ∷ numbers (36 ∷ 7 ∷ []) ∷ []

-- it weighs 133
abbrev pub ResumedCollectionWeight : Type 0
ResumedCollectionWeight = weight resumed_collection [] ≡ 133

-- `(kSwitch (drSwitch time (>>> integral (arr (add x (mul 1000 (p 0)))))) E
-- (>>> (parB (old 0) (old 0)) (arr (add (nth x 0 0) (mul 1000000 (nth x 1 0))))))`
abbrev pub resumed_twice : Network Expression
resumed_twice =
    k_switch
    (r_switch delayed time (seq integral (arr (add input (mul (num 1000) (param 0)))))) at_seven
    (seq (par (networks_of (old 0 ∷ old 0 ∷ [])))
    (arr
    (add (nth input (num 0) (num 0)) (mul (num 1000000) (nth input (num 1) (num 0))))))

-- resumed twice at an event: in both what ran before still outputs
abbrev pub ResumedTwice : Type 0
ResumedTwice = stream_of resumed_twice
    ((0, quiet 1) ∷ (2, with_event 2 5) ∷ (3, with_event 7 6) ∷ (4, with_event 9 8) ∷ (5, quiet 1)
    ∷ []) ≡ n 0 ∷ n 2 ∷ n 5006005006 ∷ n 6028006028 ∷ n 8045008045 ∷ []

-- it weighs 31
abbrev pub ResumedTwiceWeight : Type 0
ResumedTwiceWeight = weight resumed_twice [] ≡ 31

-- `(rpSwitchB (col (drSwitch (iPre 0) (iPre (p 0)))) (pair x (list Int)) (arr (fst x)))`
abbrev pub restarted_member : Network Expression
restarted_member =
    rp_switch (networks_of (r_switch delayed (i_pre (num 0)) (i_pre (param 0)) ∷ []))
    (pair_expr input (int_list [])) (arr (fst input))

-- one member goes on as two, which an event then starts anew
abbrev pub RestartedMember : Type 0
RestartedMember = stream_of restarted_member
    ((0, pair (with_event 1 10) no_event)
    ∷ (1, pair (quiet 2) (event (numbers (0 ∷ 0 ∷ []))))
    ∷ (1, pair (with_event 3 11) (event (numbers (1 ∷ [])))) ∷ (1, pair (quiet 4) no_event) ∷ [])
    ≡ numbers (0 ∷ []) ∷ numbers (1 ∷ 1 ∷ []) ∷ numbers (2 ∷ []) ∷ numbers (3 ∷ []) ∷ []

-- it weighs 257
abbrev pub RestartedMemberWeight : Type 0
RestartedMemberWeight = weight restarted_member [] ≡ 257
