-- The members of an `rpSwitchB` that run on a sample weigh less than it, all together.
use Rattle.std.proofs.Common.{◌≡◌, ℕ, zero, suc, ◌+◌, ◌*◌, ◌<◌, ◌≤◌, min, get_or, List, [], ◌∷◌, Option, Some, None, length, map, take, refl, ap, ◌∙◌, arith}
use Rattle.std.proofs.lemmas.List.{length-take}
use Rattle.std.proofs.Math.Nat.{suc-mul}
use Rattle.std.proofs.lemmas.Nat.{mul-le}
use Rattle.sample_core.specs.Datum.{Datum, right, items_of}
use Rattle.leaf_core.specs.KeyTree.{KeyTree}
use Rattle.net_tree.specs.Height.{greatest}
use Rattle.net_tree.specs.Network.{Network, Networks, no_members, and_member}
use Rattle.net_tree.specs.Weight.{weight, weights, total}
use Rattle.state_core.specs.State.{States, Scope, Frozen, Frozens, no_state, and_state, no_frozen, and_frozen, push_param, all_unstarted, all_paused, frozen_list, first_frozen, chosen_frozen}
use Rattle.step_core.specs.Rank.{ranks, ranks_in, frozen_rank, frozen_ranks}
use Rattle.step_core.specs.Runs as R
use Rattle.step_core.specs.Runs.{EachIs, RpSwitchBy}
use Rattle.step_core.specs.Switching.{IsTurned}
use Rattle.step_core.proofs.ChosenMembers.{each-take, EachStarts, choices, each-choices}
use Rattle.step_core.proofs.Ranks.{ranks-param, ranks-paused}

-- what members weigh together
abbrev pub load : List (Frozen ℕ) → ℕ
load ms = total (map frozen_rank ms)

-- each weighs at most g
abbrev Light : ℕ → List (Frozen ℕ) → Type 0
Light g ms = EachIs (λ f. frozen_rank f ≤ g) ms

load_within : (g : ℕ) (ms : List (Frozen ℕ)) → Light g ms → load ms ≤ length ms * g
load_within g [] h = omega arith
load_within g (m ∷ ms) h =
    let split : suc (length ms) * g ≡ length ms * g + g = suc-mul (length ms) g in
    omega (arith, split, h.0, load_within g ms h.1)

-- 64 of them weigh at most 64 times that
few_within : (g : ℕ) (ms : List (Frozen ℕ)) → Light g ms → load (take 64 ms) ≤ 64 * g
few_within g ms h =
    let few : length (take 64 ms) ≡ min 64 (length ms) = length-take 64 ms in
    omega (
      arith,
      load_within g (take 64 ms) (each-take (λ f. frozen_rank f ≤ g) 64 ms h),
      mul-le (length (take 64 ms)) g 64 g (omega (arith, few)) (omega arith),
    )

listed_load : (fs : Frozens ℕ) → load (frozen_list fs) ≡ total (frozen_ranks fs)
listed_load no_frozen = refl
listed_load (and_frozen f fs) = ap (λ n. frozen_rank f + n) (listed_load fs)

light_paused : (g d : ℕ) (as' : States ℕ) → greatest (ranks as') ≤ g → Light g (frozen_list (all_paused as' d))
light_paused g d no_state h = tt
light_paused g d (and_state a as') h = (omega (arith, h), light_paused g d as' (omega (arith, h)))

light_unstarted : (g : ℕ) (fs : Networks ℕ) (s : Scope ℕ) → greatest (weights fs (ranks_in s)) ≤ g → Light g (frozen_list (all_unstarted fs s))
light_unstarted g no_members s h = tt
light_unstarted g (and_member f fs) s h = (omega (arith, h), light_unstarted g fs s (omega (arith, h)))

light_starts : (g : ℕ) (t : Network ℕ) (s : Scope ℕ) (vs : List Datum) → weight t (ranks_in s) ≤ g → EachStarts (λ f. frozen_rank f ≤ g) t s vs
light_starts g t s [] h = tt
light_starts g t s (v ∷ vs) h =
    let same : weight t (ranks_in (push_param s v)) ≡ weight t (ranks_in s) = ap (weight t) (ranks-param s v) in
    (omega (arith, same, h), light_starts g t s vs h)

-- of those before, at most so heavy, and of what starts an event chooses at most 64
chosen_within : (g : ℕ) (t : Network ℕ) (s : Scope ℕ) (ms : List (Frozen ℕ)) (w : Datum) → Light g ms → weight t (ranks_in s) ≤ g
    → load (chosen_frozen t s ms w) ≤ 64 * g
chosen_within g t s ms w h l =
    few_within g (choices t s ms w)
    (each-choices (λ f. frozen_rank f ≤ g) t s ms w h (light_starts g t s (items_of (right w)) l))

pub turned_falls : (keys : List KeyTree) (w : Frozen ℕ) (m : ℕ) (before : List (Frozen ℕ)) (t : Network ℕ) (s : Scope ℕ) (o : Option (Datum × Datum))
    (ms : List (Frozen ℕ)) → RpSwitchBy w m before t s → IsTurned keys m t s before o ms → load ms < frozen_rank w
turned_falls keys w m before t s None ms (R.rp_switch_new {fs = fs}) e =
    let g : ℕ = greatest (weight t (ranks_in s) ∷ weights fs (ranks_in s)) in
    let same : load ms ≡ load (first_frozen fs s) = ap load e in
    omega (arith, same, few_within g (frozen_list (all_unstarted fs s)) (light_unstarted g fs s (omega arith)))
turned_falls keys w m before t s (Some v) ms (R.rp_switch_new {fs = fs}) h =
    let g : ℕ = greatest (weight t (ranks_in s) ∷ weights fs (ranks_in s)) in
    let same : load ms ≡ load (chosen_frozen t s (first_frozen fs s) h.0) = ap load h.2 in
    let light : Light g (first_frozen fs s) = each-take (λ f. frozen_rank f ≤ g) 64 (frozen_list (all_unstarted fs s)) (light_unstarted g fs s (omega arith)) in
    omega (arith, same, chosen_within g t s (first_frozen fs s) h.0 light (omega arith))
turned_falls keys w m before t s None ms (R.rp_switch_on {as' = as'} {d = d}) e =
    let same : load ms ≡ total (ranks as') = ap load e ∙ listed_load (all_paused as' d) ∙ ap total (ranks-paused as' d) in
    omega (arith, same)
turned_falls keys w m before t s (Some v) ms (R.rp_switch_on {as' = as'} {d = d}) h =
    let g : ℕ = greatest (weight t (ranks_in s) ∷ ranks as') in
    let same : load ms ≡ load (chosen_frozen t s (frozen_list (all_paused as' d)) h.0) = ap load h.2 in
    omega (arith, same, chosen_within g t s (frozen_list (all_paused as' d)) h.0 (light_paused g d as' (omega arith)) (omega arith))

-- each is less than all together
pub one_falls : {A : Type 0} (g : A → Frozen ℕ) (all : List A) (i : ℕ) (item : A) → i < length all → item ≡ get_or all i item
    → frozen_rank (g item) ≤ load (map g all)
one_falls g [] i item l e = absurd (omega (arith, l))
one_falls g (a ∷ all) zero item l e = let same : frozen_rank (g item) ≡ frozen_rank (g a) = ap (λ z. frozen_rank (g z)) e in omega (arith, same)
one_falls g (a ∷ all) (suc i) item l e = omega (arith, one_falls g all i item (omega (arith, l)) e)
