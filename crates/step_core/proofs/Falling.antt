-- Each part of what runs weighs less than it.
use Rattle.std.proofs.Common.{◌≡◌, ℕ, ◌+◌, ◌<◌, ◌≤◌, List, [], ◌∷◌, ◌++◌, ap, ◌∙◌, arith}
use Rattle.sample_core.specs.Datum.{Datum}
use Rattle.net_tree.specs.Network.{Network, arr, seq, first, par, loop_pre, initial_out, initial_in, i_pre, delay, hold, accum_by, after, repeatedly, time, integral, at_once, delayed, switch, r_switch, rp_switch, k_switch, p_switch, old}
use Rattle.net_tree.specs.Weight.{weight, weights, weight_at, total}
use Rattle.state_core.specs.State.{State, Scope, Frozen, Frozens, arr_state, seq_state, first_state, par_state, loop_state, cell_state, accum_state, switch_state, r_switch_state, k_switch_state, p_switch_state, rp_switch_state, no_frozen, and_frozen, unstarted, paused, push_param, push_old, push_olds, all_unstarted, all_paused}
use Rattle.step_core.specs.Rank.{rank, ranks, ranks_in, frozen_rank, frozen_ranks}
use Rattle.step_core.specs.Runs as R
use Rattle.step_core.specs.Runs.{ParBy, RSwitchBy, KSwitchBy, PSwitchBy, OldBy}
use Rattle.step_core.proofs.Ranks.{ranks-olds, ranks-unstarted, ranks-paused, rank-in}

weight_positive : (net : Network ℕ) (ws : List ℕ) → 1 ≤ weight net ws
weight_positive (arr e) ws = omega arith
weight_positive (seq f g) ws = omega arith
weight_positive (first f) ws = omega arith
weight_positive (par fs) ws = omega arith
weight_positive (loop_pre c f) ws = omega arith
weight_positive (i_pre c) ws = omega arith
weight_positive (delay q c) ws = omega arith
weight_positive (hold c) ws = omega arith
weight_positive (accum_by g z) ws = omega arith
weight_positive (after q c) ws = omega arith
weight_positive (repeatedly q c) ws = omega arith
weight_positive time ws = omega arith
weight_positive integral ws = omega arith
weight_positive (switch tm f t) ws = omega arith
weight_positive (r_switch at_once f t) ws = omega arith
weight_positive (r_switch delayed f t) ws = omega arith
weight_positive (rp_switch fs m t) ws = omega arith
weight_positive (initial_out c f) ws = omega arith
weight_positive (initial_in c f) ws = omega arith
weight_positive (k_switch f e t) ws = omega arith
weight_positive (p_switch r fs e t) ws = omega arith
weight_positive (old k) ws = omega arith

rank_positive : (a : State ℕ) → 1 ≤ rank a
rank_positive (arr_state e ps) = omega arith
rank_positive (seq_state a b) = omega arith
rank_positive (first_state a) = omega arith
rank_positive (par_state as') = omega arith
rank_positive (loop_state v a) = omega arith
rank_positive (cell_state k) = omega arith
rank_positive (accum_state g ps v) = omega arith
rank_positive (switch_state tm a t s) = omega arith
rank_positive (r_switch_state at_once a t s) = omega arith
rank_positive (r_switch_state delayed a t s) = omega arith
rank_positive (k_switch_state a b t s) = omega arith
rank_positive (p_switch_state r as' b t s) = omega arith
rank_positive (rp_switch_state m as' t s) = omega arith

pub frozen_positive : (f : Frozen ℕ) → 1 ≤ frozen_rank f
frozen_positive (unstarted net s) = weight_positive net (ranks_in s)
frozen_positive (paused a d) = rank_positive a

-- members are visited one by one
pub members_fall : (fs : Frozens ℕ) (f : Frozen ℕ) (gs : Frozens ℕ) → fs ≡ and_frozen f gs
    → (frozen_rank f ≤ total (frozen_ranks fs)) × (total (frozen_ranks gs) < total (frozen_ranks fs))
members_fall fs f gs e =
    let sum : total (frozen_ranks fs) ≡ frozen_rank f + total (frozen_ranks gs) = ap (λ hs. total (frozen_ranks hs)) e in
    (omega (arith, sum), omega (arith, sum, frozen_positive f))

pub par_falls : (w : Frozen ℕ) (ms : Frozens ℕ) → ParBy w ms → total (frozen_ranks ms) < frozen_rank w
par_falls w ms (R.par_new {fs = fs} {s = s}) = let e : total (frozen_ranks (all_unstarted fs s))
    ≡ total (weights fs (ranks_in s)) = ap total (ranks-unstarted fs s) in omega (arith, e)
par_falls w ms (R.par_on {as' = as'} {d = d}) = let e : total (frozen_ranks (all_paused as' d))
    ≡ total (ranks as') = ap total (ranks-paused as' d) in omega (arith, e)

pub k_switch_within : (w p q : Frozen ℕ) (t : Network ℕ) (s : Scope ℕ) → KSwitchBy w p q t s
    → frozen_rank p + frozen_rank q + weight t (ranks_in s ++ frozen_rank p ∷ []) < frozen_rank w
k_switch_within w p q t s R.k_switch_new = omega arith
k_switch_within w p q t s R.k_switch_on = omega arith

pub p_switch_within : (w : Frozen ℕ) (r : ℕ) (ms : Frozens ℕ) (q : Frozen ℕ) (t : Network ℕ) (s : Scope ℕ) → PSwitchBy w r ms q t s
    → total (frozen_ranks ms) + frozen_rank q + weight t (ranks_in s ++ frozen_ranks ms) < frozen_rank w
p_switch_within w r ms q t s (R.p_switch_new {fs = fs} {e = e}) =
    let k : frozen_ranks (all_unstarted fs s) ≡ weights fs (ranks_in s) = ranks-unstarted fs s in
    let i : total (frozen_ranks (all_unstarted fs s)) ≡ total (weights fs (ranks_in s)) = ap total k in
    let j : weight t (ranks_in s ++ frozen_ranks (all_unstarted fs s)) ≡ weight t (ranks_in s ++ weights fs (ranks_in s)) = ap
    (λ us. weight t (ranks_in s ++ us)) k in
    omega (arith, i, j)
p_switch_within w r ms q t s (R.p_switch_on {as' = as'} {b = b} {d = d}) =
    let k : frozen_ranks (all_paused as' d) ≡ ranks as' = ranks-paused as' d in
    let i : total (frozen_ranks (all_paused as' d)) ≡ total (ranks as') = ap total k in
    let j : weight t (ranks_in s ++ frozen_ranks (all_paused as' d)) ≡ weight t (ranks_in s ++ ranks as') = ap (λ us. weight t (ranks_in s ++ us)) k in
    omega (arith, i, j)

pub delayed_within : (w p : Frozen ℕ) (t : Network ℕ) (s : Scope ℕ) → RSwitchBy delayed w p t s → frozen_rank p + weight t (ranks_in s) < frozen_rank w
delayed_within w p t s R.r_switch_new = omega arith
delayed_within w p t s R.r_switch_on = omega arith

pub old_falls : (w f : Frozen ℕ) → OldBy w f → frozen_rank f < frozen_rank w
old_falls w f (R.old_new {k = k} {s = s} e) = let h : frozen_rank f ≡ weight_at (ranks_in s) k = rank-in s k f e in omega (arith, h)

-- what takes over weighs as it did in its scope, with what is frozen before it
pub over_old_weighs : (t : Network ℕ) (s s' : Scope ℕ) (u : Datum) (p : Frozen ℕ) → s' ≡ push_old (push_param s u) p → frozen_rank (unstarted t s')
    ≡ weight t (ranks_in s ++ frozen_rank p ∷ [])
over_old_weighs t s s' u p e = ap (λ z. weight t z) (ap ranks_in e ∙ ranks-olds s u (and_frozen p no_frozen))

pub over_olds_weighs : (t : Network ℕ) (s s' : Scope ℕ) (u : Datum) (ms : Frozens ℕ) → s' ≡ push_olds (push_param s u) ms → frozen_rank (unstarted t s')
    ≡ weight t (ranks_in s ++ frozen_ranks ms)
over_olds_weighs t s s' u ms e = ap (λ z. weight t z) (ap ranks_in e ∙ ranks-olds s u ms)
