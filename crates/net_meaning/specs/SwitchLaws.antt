-- What the switches output, said with environments: what takes over runs in the environment with
-- the event's value, and with what was frozen.
use Rattle.std.specs.Prelude.{◌≡◌, ℕ, suc, ◌<◌, ◌≤◌, List, ◌++◌, length, take, drop, map, flat_map, [], ◌∷◌}
use Rattle.sample_core.specs.Datum.{Datum, left, right}
use Rattle.leaf_core.specs.Expression.{Expression}
use Rattle.leaf_core.specs.ExpressionValue.{value_of}
use Rattle.net_meaning.specs.SignalFunction.{TimedList, pair_samples, first_event, cut_at, step_of, pieces, route, collect, resume, until, lap, each_piece, gather, Member, new_members, by_members}
use Rattle.net_tree.specs.Network.{Timing, at_once, delayed, Network, Networks, switch, r_switch, rp_switch, k_switch, p_switch, old, no_members, and_member}
use Rattle.net_meaning.specs.Meaning.{meanings}
use Rattle.net_meaning.specs.Typing.{members}
use Rattle.net_meaning.specs.Environment.{Environment, param, frozen, context_of}
use Rattle.net_meaning.specs.TypedNetwork.{outputs_of}

-- how many frozen networks an environment has
abbrev pub olds_in : Environment Expression → ℕ
olds_in E = length (context_of value_of E).olds

-- the value of r under the parameters of E
abbrev pub route_in : Environment Expression → Expression → Datum → Datum
route_in E r = value_of r (context_of value_of E).params

-- F with all members frozen in order, from member i on: each in E, with its routed past and the
-- step d
abbrev pub freeze_members : Environment Expression → Expression → ℕ → Networks Expression
    → TimedList → ℕ → Environment Expression → Environment Expression
freeze_members E r i no_members p d F = F
freeze_members E r i (and_member f fs) p d F =
    freeze_members E r (suc i) fs p d (frozen F f E (route (route_in E r) i p) d)

-- `switch`, `dSwitch`: the first event of f's second components is where t takes over, and is heard,
-- or where it starts, and is heard from the next sample on
abbrev pub SwitchLaw : Type 0
SwitchLaw = (tm : Timing) (f t : Network Expression) (E : Environment Expression) (xs : TimedList)
    → outputs_of (switch tm f t) E xs
    ≡ cut_at (first_event (map right (outputs_of f E xs))) (map left (outputs_of f E xs))
    (λ n c. take (until tm n) (map left (outputs_of f E xs))
    ++ drop (until tm 0) (outputs_of t (param E c) (drop n xs)))

-- `rSwitch`: f on the samples before the first event, t anew from each event on
abbrev pub RestartLaw : Type 0
RestartLaw = (f t : Network Expression) (E : Environment Expression) (xs : TimedList)
    → outputs_of (r_switch at_once f t) E xs ≡ outputs_of f E (pieces xs).0
    ++ flat_map (λ piece. outputs_of t (param E piece.0) piece.1) (pieces xs).1

-- `drSwitch`: the same pieces, each with the first sample of the next; what t first outputs on its
-- piece isn't heard
abbrev pub LateRestartLaw : Type 0
LateRestartLaw = (f t : Network Expression) (E : Environment Expression) (xs : TimedList)
    → outputs_of (r_switch delayed f t) E xs
    ≡ outputs_of f E ((pieces xs).0 ++ lap delayed (pieces xs).1)
    ++ each_piece delayed (λ c. outputs_of t (param E c)) (pieces xs).1

-- a network in an environment of its own
abbrev pub Runner : Type 0
Runner = Network Expression × Environment Expression

-- members in one environment
abbrev pub runners : Environment Expression → Networks Expression → List Runner
runners E no_members = []
runners E (and_member f fs) = (f, E) ∷ runners E fs

-- the list of what each member outputs on a piece, behind the samples that it has got
abbrev pub runner_outputs : List (Member Runner) → TimedList → List Datum
runner_outputs ms q =
    gather q (map (λ m. drop (length m.1) (outputs_of m.0.0 m.0.1 (m.1 ++ q))) ms)

-- `rpSwitchB`: members are networks, each with an environment and the samples that it has got. At
-- each event m chooses some of them, and t starts under each of its values; at most 64 go on
abbrev pub CollectionLaw : Type 0
CollectionLaw = (fs : Networks Expression) (m : Expression) (t : Network Expression)
    (E : Environment Expression) (xs : TimedList)
    → members fs ≤ 64
    → outputs_of (rp_switch fs m t) E xs
    ≡ by_members runner_outputs (route_in E m) (λ v. (t, param E v)) (new_members (runners E fs))
    (pieces xs).0 (pieces xs).1

-- `kSwitch`: t takes over with f frozen as it was before the event's sample, and with that sample's
-- step
abbrev pub FreezeLaw : Type 0
FreezeLaw = (f e t : Network Expression) (E : Environment Expression) (xs : TimedList)
    → outputs_of (k_switch f e t) E xs
    ≡ cut_at (first_event (outputs_of e E (pair_samples xs (outputs_of f E xs))))
    (outputs_of f E xs)
    (λ n c. take n (outputs_of f E xs)
    ++ outputs_of t (frozen (param E c) f E (take n xs) (step_of (drop n xs))) (drop n xs))

-- the list of the members' outputs at each sample, each member on what r gives it
abbrev pub members_in : Environment Expression → Expression → Networks Expression → TimedList
    → List Datum
members_in E r fs xs = collect (route_in E r) (meanings value_of fs (context_of value_of E)) xs

-- `pSwitch`: t takes over with all members so frozen, in order
abbrev pub FreezeMembersLaw : Type 0
FreezeMembersLaw = (r : Expression) (fs : Networks Expression) (e t : Network Expression)
    (E : Environment Expression) (xs : TimedList)
    → outputs_of (p_switch r fs e t) E xs
    ≡ cut_at (first_event (outputs_of e E (pair_samples xs (members_in E r fs xs))))
    (members_in E r fs xs)
    (λ n c. take n (members_in E r fs xs)
    ++ outputs_of t (freeze_members E r 0 fs (take n xs) (step_of (drop n xs)) (param E c))
    (drop n xs))

-- `old`: the network frozen last is resumed
abbrev pub ResumeLaw : Type 0
ResumeLaw = (E : Environment Expression) (net : Network Expression) (F : Environment Expression)
    (p : TimedList) (d : ℕ) (xs : TimedList)
    → outputs_of (old (olds_in E)) (frozen E net F p d) xs ≡ resume (outputs_of net F) p d xs

-- those frozen before it keep their numbers
abbrev pub KeptNumbersLaw : Type 0
KeptNumbersLaw = (E : Environment Expression) (net : Network Expression)
    (F : Environment Expression) (p : TimedList) (d k : ℕ) (xs : TimedList)
    → k < olds_in E → outputs_of (old k) (frozen E net F p d) xs ≡ outputs_of (old k) E xs
