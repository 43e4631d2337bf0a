-- What a sample does to what runs at a place of its own.
use Rattle.std.proofs.Common.{◌≡◌, ℕ, suc, ◌+◌, ◌<◌, ◌^◌, pos, List, [], ◌∷◌, ◌++◌, Some, None, length, refl, sym, ap, ◌∙◌, subst, arith, append_assoc, append-nil}
use Rattle.std.specs.Prelude.{slice_get}
use Rattle.std.proofs.lemmas.List.{length-append}
use Rattle.cell_core.specs.Cell.{Cell}
use Rattle.sample_core.specs.Datum.{Datum, left, right, pair, int, list, list_of}
use Rattle.leaf_core.specs.KeyTree.{KeyTree}
use Rattle.net_tree.specs.Network.{Timing, delayed, Network, Networks, seq, par, loop_pre, switch, r_switch, k_switch, p_switch, old, no_members, and_member}
use Rattle.net_meaning.specs.Typing.{members}
use Rattle.net_tree.specs.Weight.{weight, total}
use Rattle.state_core.specs.State.{State, Scope, Frozen, switch_state, k_switch_state, p_switch_state, and_state, and_frozen, unstarted, paused, params_of, frozens_of, frozen_at, push_param, push_old, push_olds}
use Rattle.state_core.specs.Tree.{Kept, wider, width_of, width, joined, nothing, one_place, head_state, member_states, running}
use Rattle.step_core.specs.Called.{Called}
use Rattle.step_core.specs.Flow.{Past, past_behind, flowed, all_flowed, placed, all_placed, standing, Flows, Runs, AllRun}
use Rattle.step_core.specs.Outcome.{outcome}
use Rattle.step_core.specs.Rank.{ranks_in, frozen_rank, frozen_ranks}
use Rattle.step_core.specs.Runs as R
use Rattle.step_core.specs.Runs.{RunsWhere, RunEachWhere, SwitchBy, KSwitchBy, PSwitchBy, by_row}
use Rattle.net_meaning.specs.SignalFunction.{event_in, heard}
use Rattle.step_core.specs.Switching.{ListRuns}
use Rattle.step_core.proofs.Falling.{members_fall, par_falls, delayed_within, k_switch_within, p_switch_within, old_falls, over_old_weighs, over_olds_weighs}
use Rattle.step_core.proofs.Flows.{also_by, par_by, r_switch_by}
use Rattle.step_core.proofs.Kepts.{behind_both, from_start, state_at, joined_assoc, joined_nothing, width_joined, members_more, behind_members}
use Rattle.step_core.proofs.Ranks.{ranks-param}
use Rattle.step_core.proofs.RunForms.{switch_goes, switch_fires, k_switch_goes, k_switch_fires, old_runs}
use Rattle.step_core.proofs.RunMembers.{none_runs, also_runs, p_switch_goes, p_switch_fires}

-- the parts of what runs
pub switch_by : (tm : Timing) (f t : Network ℕ) (s : Scope ℕ) (p : Past) → SwitchBy tm (standing (switch tm f t) s p) (placed f s p) t s
switch_by tm f t s None = R.switch_new
switch_by tm f t s (Some k) = R.switch_on

pub k_switch_by : (f e t : Network ℕ) (s : Scope ℕ) (p : Past)
    → KSwitchBy (standing (k_switch f e t) s p) (placed f s p) (placed e s (past_behind (0, 1) p)) t s
k_switch_by f e t s None = R.k_switch_new
k_switch_by f e t s (Some k) = R.k_switch_on

pub p_switch_by : (r : ℕ) (fs : Networks ℕ) (e t : Network ℕ) (s : Scope ℕ) (p : Past)
    → PSwitchBy (standing (p_switch r fs e t) s p) r (all_placed fs s p) (placed e s (past_behind (0, members fs) p)) t s
p_switch_by r fs e t s None = R.p_switch_new
p_switch_by r fs e t s (Some k) = R.p_switch_on

pub also_placed : (f : Network ℕ) (fs : Networks ℕ) (s : Scope ℕ) (q : Past)
    → all_placed (and_member f fs) s q ≡ and_frozen (placed f s q) (all_placed fs s (past_behind (0, 1) q))
also_placed f fs s None = refl
also_placed f fs s (Some p) = refl

places_only : (net : Network ℕ) (s : Scope ℕ) (i n : ℕ) (p : Past) → placed net s (past_behind (i, n) p) ≡ placed net s (past_behind (0, n) p)
places_only net s i n None = refl
places_only net s i n (Some p) = refl

-- what is found at a place
pub placed_found : (net : Network ℕ) (s : Scope ℕ) (p : Past) (k : Kept ℕ) (d at : ℕ) (a : State ℕ) → p ≡ Some (k, d) → slice_get k.1 at ≡ Some a
    → placed net s (past_behind (0, at) p) ≡ paused a d
placed_found net s p k d at a e h =
    ap (λ q. placed net s (past_behind (0, at) q)) e ∙ ap (λ (b : State ℕ). paused b d) (state_at k.1 at a h)

-- how much a part keeps more
pub flows_width : (keys : List KeyTree) (f : Network ℕ) (s : Scope ℕ) (p : Past) (x y : Datum) (before mid : Kept ℕ) (n : ℕ) → Flows keys f s p x before mid y n
    → width_of mid ≡ wider (width_of before) (width f)
flows_width keys f s p x y before mid n one = ap width_of one.added ∙ width_joined before one.kept ∙ ap (wider (width_of before)) one.is_width

pub runs_width : (keys : List KeyTree) (w : Frozen ℕ) (x y : Datum) (before mid : Kept ℕ) (n : ℕ) → Runs keys w x before mid y n
    → width_of mid ≡ wider (width_of before) (0, 1)
runs_width keys w x y before mid n one = ap width_of one.added ∙ width_joined before (one_place one.state)

-- the second part of a `>>>` is less than it
pub rest_falls : (keys : List KeyTree) (net f g : Network ℕ) (s : Scope ℕ) (p : Past) (x y : Datum) (before mid : Kept ℕ) (n : ℕ) → net ≡ seq f g
    → Flows keys f s p x before mid y n
    → (frozen_rank (flowed f s (past_behind (width_of before) p)) < frozen_rank (flowed net s (past_behind (width_of before) p)))
    × (frozen_rank (flowed g s (past_behind (width_of mid) p)) < frozen_rank (flowed net s (past_behind (width_of before) p)))
rest_falls keys net f g s p x y before mid n e one =
    let q = past_behind (width_of before) p in
    let whole : frozen_rank (flowed net s q) ≡ frozen_rank (flowed (seq f g) s q) = ap (λ z. frozen_rank (flowed z s q)) e in
    let there : frozen_rank (flowed g s (past_behind (width f) q)) ≡ frozen_rank (flowed g s (past_behind (width_of mid) p)) =
    ap (λ z. frozen_rank (flowed g s z)) (behind_both (width f) (width_of before) (width_of mid) p (flows_width keys f s p x y before mid n one)) in
    (omega (arith, whole, less q), omega (arith, whole, there, less q))
  where
    less : (q : Past) → frozen_rank (flowed f s q) + frozen_rank (flowed g s (past_behind (width f) q)) < frozen_rank (flowed (seq f g) s q)
    less None = omega arith
    less (Some k) = omega arith

-- the first of some members weighs no more than all, and those behind it are less
pub others_fall : (gs : Networks ℕ) (f : Network ℕ) (fs : Networks ℕ) (s : Scope ℕ) (p : Past) (before mid : Kept ℕ) → gs ≡ and_member f fs
    → width_of mid ≡ wider (width_of before) (width f)
    → total (frozen_ranks (all_flowed fs s (past_behind (width_of mid) p))) < total (frozen_ranks (all_flowed gs s (past_behind (width_of before) p)))
others_fall gs f fs s p before mid e w =
    let q = past_behind (width_of before) p in
    let all : all_flowed gs s q ≡ and_frozen (flowed f s q) (all_flowed fs s (past_behind (width_of mid) p)) =
    ap (λ hs. all_flowed hs s q) e ∙ also_by f fs s q ∙ ap (λ z. and_frozen (flowed f s q) (all_flowed fs s z)) (behind_both (width f) (width_of before) (width_of mid) p w) in
    (members_fall _ _ _ all).1

pub others_placed_fall : (gs : Networks ℕ) (f : Network ℕ) (fs : Networks ℕ) (s : Scope ℕ) (p : Past) (before mid : Kept ℕ) → gs ≡ and_member f fs
    → width_of mid ≡ wider (width_of before) (0, 1)
    → total (frozen_ranks (all_placed fs s (past_behind (width_of mid) p))) < total (frozen_ranks (all_placed gs s (past_behind (width_of before) p)))
others_placed_fall gs f fs s p before mid e w =
    let q = past_behind (width_of before) p in
    let all : all_placed gs s q ≡ and_frozen (placed f s q) (all_placed fs s (past_behind (width_of mid) p)) =
    ap (λ hs. all_placed hs s q) e ∙ also_placed f fs s q ∙ ap (λ z. and_frozen (placed f s q) (all_placed fs s z)) (behind_both (0, 1) (width_of before) (width_of mid) p w) in
    (members_fall _ _ _ all).1

-- the same in rank
pub same_rank : (w u : Frozen ℕ) → w ≡ u → frozen_rank w ≡ frozen_rank u
same_rank w u e = ap frozen_rank e

-- all members are less than their `parB`
pub par_members_fall : (fs : Networks ℕ) (s : Scope ℕ) (q : Past) → total (frozen_ranks (all_flowed fs s q)) < frozen_rank (flowed (par fs) s q)
par_members_fall fs s q = par_falls _ _ (par_by fs s q)

-- a cell more
pub one_cell_wider : (before now : List Cell) (k : Cell) (as' : List (State ℕ)) → now ≡ before ++ k ∷ [] → width_of (now, as') ≡ wider (width_of (before, as')) (1, 0)
one_cell_wider before now k as' e =
    let cells : length now ≡ length before + 1 = ap length e ∙ length-append before (k ∷ []) in
    let places : length as' ≡ length as' + 0 = omega arith in
    λ i. (cells i, places i)

-- the part of a `loopPre` is less than it
pub loop_part_falls : (c : ℕ) (f : Network ℕ) (s : Scope ℕ) (p : Past) (before mid : Kept ℕ) → width_of mid ≡ wider (width_of before) (1, 0)
    → frozen_rank (flowed f s (past_behind (width_of mid) p)) < frozen_rank (flowed (loop_pre c f) s (past_behind (width_of before) p))
loop_part_falls c f s p before mid w =
    let e : frozen_rank (flowed f s (past_behind (1, 0) (past_behind (width_of before) p))) ≡ frozen_rank (flowed f s (past_behind (width_of mid) p)) =
    ap (λ q. frozen_rank (flowed f s q)) (behind_both (1, 0) (width_of before) (width_of mid) p w) in
    omega (arith, e, less (past_behind (width_of before) p))
  where
    less : (q : Past) → frozen_rank (flowed f s (past_behind (1, 0) q)) < frozen_rank (flowed (loop_pre c f) s q)
    less None = omega arith
    less (Some k) = omega arith

-- what takes over is less than the switch
begun : (t : Network ℕ) (s' s'' : Scope ℕ) (q : Past) → s'' ≡ s' → q ≡ None → frozen_rank (standing t s'' q) ≡ frozen_rank (unstarted t s')
begun t s' s'' q e h = ap (λ z. frozen_rank (standing t s'' z)) h ∙ ap (λ z. frozen_rank (unstarted t z)) e

pub k_over_falls : (f e t : Network ℕ) (s s' s'' : Scope ℕ) (p q : Past) (u : Datum) → s' ≡ push_old (push_param s u) (placed f s p) → s'' ≡ s' → q ≡ None
    → frozen_rank (standing t s'' q) < frozen_rank (standing (k_switch f e t) s p)
k_over_falls f e t s s' s'' p q u es e2 eq =
    let a : frozen_rank (standing t s'' q) ≡ frozen_rank (unstarted t s') = begun t s' s'' q e2 eq in
    let b : frozen_rank (unstarted t s') ≡ weight t (ranks_in s ++ frozen_rank (placed f s p) ∷ []) = over_old_weighs t s s' u (placed f s p) es in
    omega (arith, a, b, k_switch_within _ _ _ _ _ (k_switch_by f e t s p))

pub p_over_falls : (r : ℕ) (fs : Networks ℕ) (e t : Network ℕ) (s s' s'' : Scope ℕ) (p q : Past) (u : Datum) → s' ≡ push_olds (push_param s u) (all_placed fs s p)
    → s'' ≡ s' → q ≡ None → frozen_rank (standing t s'' q) < frozen_rank (standing (p_switch r fs e t) s p)
p_over_falls r fs e t s s' s'' p q u es e2 eq =
    let a : frozen_rank (standing t s'' q) ≡ frozen_rank (unstarted t s') = begun t s' s'' q e2 eq in
    let b : frozen_rank (unstarted t s') ≡ weight t (ranks_in s ++ frozen_ranks (all_placed fs s p)) = over_olds_weighs t s s' u (all_placed fs s p) es in
    omega (arith, a, b, p_switch_within _ _ _ _ _ _ (p_switch_by r fs e t s p))

-- the members of a `pSwitch` and what watches them are less than it
pub p_members_fall : (r : ℕ) (fs : Networks ℕ) (e t : Network ℕ) (s : Scope ℕ) (p : Past) (k : Kept ℕ) → k ≡ nothing
    → total (frozen_ranks (all_placed fs s (past_behind (width_of k) p))) < frozen_rank (standing (p_switch r fs e t) s p)
p_members_fall r fs e t s p k h =
    let a : total (frozen_ranks (all_placed fs s (past_behind (width_of k) p))) ≡ total (frozen_ranks (all_placed fs s p)) =
    ap (λ (z : Kept ℕ). total (frozen_ranks (all_placed fs s (past_behind (width_of z) p)))) h ∙ ap (λ z. total (frozen_ranks (all_placed fs s z))) (from_start p) in
    omega (arith, a, p_switch_within _ _ _ _ _ _ (p_switch_by r fs e t s p))

pub p_watch_falls : (keys : List KeyTree) (r : ℕ) (fs : Networks ℕ) (e t : Network ℕ) (s : Scope ℕ) (p : Past) (x y : Datum) (before mid : Kept ℕ) (n : ℕ)
    → before ≡ nothing → ListRuns keys r fs s p x before mid y n
    → frozen_rank (placed e s (past_behind (0, length mid.1) p)) < frozen_rank (standing (p_switch r fs e t) s p)
p_watch_falls keys r fs e t s p x y before mid n h all =
    let places : length mid.1 ≡ members fs =
    ap (λ (k : Kept ℕ). length k.1) (all.2.added ∙ ap (λ k. joined k ([], all.2.states)) h) ∙ all.2.is_count in
    let a : frozen_rank (placed e s (past_behind (0, length mid.1) p)) ≡ frozen_rank (placed e s (past_behind (0, members fs) p)) =
    ap (λ m. frozen_rank (placed e s (past_behind (0, m) p))) places in
    omega (arith, a, p_switch_within _ _ _ _ _ _ (p_switch_by r fs e t s p))

-- what is resumed is less than the `old` that resumes it
pub resumed_falls : (k : ℕ) (s : Scope ℕ) (p : Past) (f : Frozen ℕ) → p ≡ None → frozen_at (frozens_of s) k ≡ Some f
    → frozen_rank f < frozen_rank (standing (old k) s p)
resumed_falls k s p f e h =
    let a : frozen_rank (standing (old k) s p) ≡ frozen_rank (unstarted (old k) s) = ap (λ q. frozen_rank (standing (old k) s q)) e in
    omega (arith, a, old_falls (unstarted (old k) s) f (R.old_new h))

-- what starts in a `drSwitch` is less than it
pub late_start_falls : (f t : Network ℕ) (s : Scope ℕ) (q : Past) (u : Datum)
    → frozen_rank (unstarted t (push_param s u)) < frozen_rank (flowed (r_switch delayed f t) s q)
late_start_falls f t s q u =
    let same : weight t (ranks_in (push_param s u)) ≡ weight t (ranks_in s) = ap (weight t) (ranks-param s u) in
    omega (arith, same, delayed_within _ (placed f s q) t s (r_switch_by delayed f t s q))

module _ (keys : List KeyTree) where
  -- the first part of what begins
  first_run : (f : Network ℕ) (s : Scope ℕ) (p : Past) (x y : Datum) (before now : Kept ℕ) (n : ℕ) → before ≡ nothing
      → Runs keys (placed f s (past_behind (0, length before.1) p)) x before now y n
      → (a : State ℕ) × (now ≡ one_place a) × RunsWhere keys (placed f s p) x a y n
  first_run f s p x y before now n e r = (
    r.state,
    r.added ∙ ap (λ k. joined k (one_place r.state)) e,
    subst (λ q. RunsWhere keys (placed f s q) x r.state y n) (ap (λ (k : Kept ℕ). past_behind (0, length k.1) p) e ∙ from_start p) r.runs,
  )

  begun_runs : (t : Network ℕ) (s' s'' : Scope ℕ) (q : Past) (x y : Datum) (a : State ℕ) (n : ℕ) → s'' ≡ s' → q ≡ None
      → RunsWhere keys (standing t s'' q) x a y n → RunsWhere keys (unstarted t s') x a y n
  begun_runs t s' s'' q x y a n e h r = subst (λ z. RunsWhere keys (unstarted t z) x a y n) e (subst (λ z. RunsWhere keys (standing t s'' z) x a y n) h r)

  -- `switch` and `dSwitch`
  pub switch_stays : (tm : Timing) (f t : Network ℕ) (s : Scope ℕ) (p : Past) (x v l y : Datum) (net : Network ℕ) (s0 : Scope ℕ) (before now last : Kept ℕ)
      (m c : ℕ) → (net ≡ switch tm f t) × (s0 ≡ s) × (before ≡ nothing) → last ≡ now
      → Runs keys (placed f s (past_behind (0, length before.1) p)) x before now v m → event_in (right v) ≡ None → l ≡ left v → y ≡ l
      → (suc (m + 0) < 2 ^ 32 → c ≡ suc (m + 0)) → RunsWhere keys (standing (switch tm f t) s p) x (running net s0 last) y c
  switch_stays tm f t s p x v l y net s0 before now last m c b e r ev el ey hc =
      let one = first_run f s p x v before now m b.2 r in
      let state : running net s0 last ≡ switch_state tm one.0 t s =
      ap (λ n. running n s0 last) b.0 ∙ ap (λ z. running (switch tm f t) z last) b.1 ∙ ap (running (switch tm f t) s) (e ∙ one.1) in
      switch_goes keys tm (placed f s p) t s x v y one.0 _ m c state (ey ∙ el) one.2 ev hc _ (switch_by tm f t s p)

  pub switch_ends : (tm : Timing) (f t : Network ℕ) (s s' s'' : Scope ℕ) (p q : Past) (x v u y z : Datum) (before now : Kept ℕ) (b : State ℕ) (m n c : ℕ)
      → before ≡ nothing → Runs keys (placed f s (past_behind (0, length before.1) p)) x before now v m → event_in (right v) ≡ Some u → s' ≡ push_param s u
      → s'' ≡ s' → q ≡ None → RunsWhere keys (standing t s'' q) x b y n → z ≡ heard tm (left v) y → (suc (m + n) < 2 ^ 32 → c ≡ suc (m + n))
      → RunsWhere keys (standing (switch tm f t) s p) x b z c
  switch_ends tm f t s s' s'' p q x v u y z before now b m n c e r ev es e2 eq two ez hc =
      let one = first_run f s p x v before now m e r in
      switch_fires keys tm (placed f s p) t s s' x v u y z one.0 b m n c es ez one.2 ev (begun_runs t s' s'' q x y b n e2 eq two) hc _ (switch_by tm f t s p)

  -- what watches a first part
  watch_run : (e : Network ℕ) (s : Scope ℕ) (p : Past) (x y : Datum) (mid now : Kept ℕ) (a : State ℕ) (n : ℕ) → mid ≡ one_place a
      → Runs keys (placed e s (past_behind (0, length mid.1) p)) x mid now y n
      → (b : State ℕ) × (now ≡ ([], a ∷ b ∷ [])) × RunsWhere keys (placed e s (past_behind (0, 1) p)) x b y n
  watch_run e s p x y mid now a n h r = (
    r.state,
    r.added ∙ ap (λ k. joined k (one_place r.state)) h,
    subst (λ (k : Kept ℕ). RunsWhere keys (placed e s (past_behind (0, length k.1) p)) x r.state y n) h r.runs,
  )

  -- `kSwitch`
  pub k_switch_stays : (f e t : Network ℕ) (s : Scope ℕ) (p : Past) (x v w : Datum) (net : Network ℕ) (s0 : Scope ℕ) (before mid now last : Kept ℕ) (m n c : ℕ)
      → (net ≡ k_switch f e t) × (s0 ≡ s) × (before ≡ nothing) → last ≡ now → Runs keys (placed f s (past_behind (0, length before.1) p)) x before mid v m
      → Runs keys (placed e s (past_behind (0, length mid.1) p)) (pair x v) mid now w n → event_in w ≡ None → (suc (m + n) < 2 ^ 32 → c ≡ suc (m + n))
      → RunsWhere keys (standing (k_switch f e t) s p) x (running net s0 last) v c
  k_switch_stays f e t s p x v w net s0 before mid now last m n c b h r k ev hc =
      let one = first_run f s p x v before mid m b.2 r in
      let two = watch_run e s p (pair x v) w mid now one.0 n one.1 k in
      let state : running net s0 last ≡ k_switch_state one.0 two.0 t s =
      ap (λ z. running z s0 last) b.0 ∙ ap (λ z. running (k_switch f e t) z last) b.1 ∙ ap (running (k_switch f e t) s) (h ∙ two.1) in
      k_switch_goes keys (placed f s p) _ t s x v (pair x v) w one.0 two.0 _ m n c state refl one.2 two.2 ev hc _ (k_switch_by f e t s p)

  pub k_switch_ends : (f e t : Network ℕ) (s s' s'' : Scope ℕ) (p q : Past) (x v w u y : Datum) (before mid now : Kept ℕ) (o : State ℕ) (m n k i c : ℕ)
      → before ≡ nothing → Runs keys (placed f s (past_behind (0, length before.1) p)) x before mid v m
      → Runs keys (placed e s (past_behind (0, length mid.1) p)) (pair x v) mid now w n → event_in w ≡ Some u
      → s' ≡ push_old (push_param s u) (placed f s p) → s'' ≡ s' → q ≡ None → RunsWhere keys (standing t s'' q) x o y k
      → (suc (m + n) < 2 ^ 32 → i ≡ suc (m + n)) → (i + k < 2 ^ 32 → c ≡ i + k) → RunsWhere keys (standing (k_switch f e t) s p) x o y c
  k_switch_ends f e t s s' s'' p q x v w u y before mid now o m n k i c h r g ev es e2 eq three h1 h2 =
      let one = first_run f s p x v before mid m h r in
      let two = watch_run e s p (pair x v) w mid now one.0 n one.1 g in
      k_switch_fires keys (placed f s p) _ t s s' x v (pair x v) w u y one.0 two.0 o m n k i c es refl one.2 two.2 ev
      (begun_runs t s' s'' q x y o k e2 eq three) h1 h2 _ (k_switch_by f e t s p)

  -- the members of a `pSwitch`
  pub none_run : (r : ℕ) (fs : Networks ℕ) (s : Scope ℕ) (p : Past) (i : ℕ) (x : Datum) (before : Kept ℕ) (ys zs : List Datum) → fs ≡ no_members → zs ≡ ys
      → AllRun keys r fs s p i x before before ys zs 0
  none_run r fs s p i x before ys zs e same = subst (λ gs. AllRun keys r gs s p i x before before ys zs 0) (sym e) (record {
    states = [];
    answers = [];
    added = joined_nothing before;
    answered = same ∙ sym (append-nil ys);
    is_count = refl;
    runs = none_at (past_behind (width_of before) p);
  })
    where
      none_at : (q : Past) → RunEachWhere keys (by_row r (params_of s)) i (all_placed no_members s q) x (member_states no_members []) [] 0
      none_at None = none_runs keys (by_row r (params_of s)) i x
      none_at (Some k) = none_runs keys (by_row r (params_of s)) i x

  pub also_run : (r : ℕ) (gs : Networks ℕ) (f : Network ℕ) (fs : Networks ℕ) (s : Scope ℕ) (p : Past) (i : ℕ) (x z y : Datum) (before mid now : Kept ℕ)
      (xs ys zs : List Datum) (m n c : ℕ) → gs ≡ and_member f fs → Called keys r (params_of s) (pair x (int (pos i))) z
      → Runs keys (placed f s (past_behind (0, length before.1) p)) z before mid y m → ys ≡ xs ++ y ∷ []
      → AllRun keys r fs s p (i + 1) x mid now ys zs n → (m + n < 2 ^ 32 → c ≡ m + n) → AllRun keys r gs s p i x before now xs zs c
  also_run r gs f fs s p i x z y before mid now xs ys zs m n c e called one ey rest hc = subst (λ hs. AllRun keys r hs s p i x before now xs zs c) (sym e) (
      let q = past_behind (width_of before) p in
      let h = by_row r (params_of s) in
      let next : i + 1 ≡ suc i = omega arith in
      let here : RunsWhere keys (placed f s q) z one.state y m =
      subst (λ w. RunsWhere keys w z one.state y m) (sym (places_only f s (length before.0) (length before.1) p)) one.runs in
      let behind : past_behind (width_of mid) p ≡ past_behind (0, 1) q =
      sym (behind_both (0, 1) (width_of before) (width_of mid) p (ap width_of one.added ∙ width_joined before (one_place one.state))) in
      let others : RunEachWhere keys h (suc i) (all_placed fs s (past_behind (0, 1) q)) x (member_states fs rest.states) rest.answers n =
      subst (λ j. RunEachWhere keys h j (all_placed fs s (past_behind (0, 1) q)) x (member_states fs rest.states) rest.answers n) next
      (subst (λ u. RunEachWhere keys h (i + 1) (all_placed fs s u) x (member_states fs rest.states) rest.answers n) behind rest.runs) in
      record {
        states = one.state ∷ rest.states;
        answers = y ∷ rest.answers;
        added = rest.added ∙ ap (λ k. joined k ([], rest.states)) one.added ∙ joined_assoc before (one_place one.state) ([], rest.states);
        answered = rest.answered ∙ ap (λ vs. vs ++ rest.answers) ey ∙ append_assoc xs (y ∷ []) rest.answers;
        is_count = ap suc rest.is_count;
        runs = subst (λ ws. RunEachWhere keys h i ws x (and_state one.state (member_states fs rest.states)) (y ∷ rest.answers) c) (sym (also_placed f fs s q))
            (also_runs keys h i (placed f s q) (all_placed fs s (past_behind (0, 1) q)) x z y one.state (member_states fs rest.states) rest.answers m n c
            called here others hc);
      })

  -- what the members to come lead to, all lead to, after so many visits
  abbrev pub EachRun : ℕ → Networks ℕ → Networks ℕ → Scope ℕ → Past → ℕ → Datum → Kept ℕ → Kept ℕ → List Datum → ℕ → Type 0
  EachRun r all rest s p i x before mid ys m = (now : Kept ℕ) (zs : List Datum) (n c : ℕ) → AllRun keys r rest s p i x mid now ys zs n
      → (m + n < 2 ^ 32 → c ≡ m + n) → AllRun keys r all s p 0 x before now [] zs c

  pub each_run_begins : (r : ℕ) (all : Networks ℕ) (s : Scope ℕ) (p : Past) (x : Datum) (before : Kept ℕ) (ys : List Datum) → ys ≡ []
      → EachRun r all all s p 0 x before before ys 0
  each_run_begins r all s p x before ys ey now zs n c f e =
      let g : AllRun keys r all s p 0 x before now [] zs n = subst (λ vs. AllRun keys r all s p 0 x before now vs zs n) ey f in
      record {
        states = g.states;
        answers = g.answers;
        added = g.added;
        answered = g.answered;
        is_count = g.is_count;
        runs = λ k A D B hd l tf t.
            let w = g.runs k A D B hd l tf t in
            record {
              visits = w.visits;
              runs = w.runs;
              is_count = λ b. let h : n ≡ w.visits = w.is_count b in e (omega (arith, h, b)) ∙ omega (arith, h);
            };
      }

  -- one member more, by an equation
  pub each_run_goes : (r : ℕ) (all rest : Networks ℕ) (f : Network ℕ) (fs : Networks ℕ) (s : Scope ℕ) (p : Past) (i : ℕ) (x z y : Datum) (before mid last : Kept ℕ)
      (ys vs : List Datum) (m k j : ℕ) → rest ≡ and_member f fs → EachRun r all rest s p i x before mid ys m → Called keys r (params_of s) (pair x (int (pos i))) z
      → Runs keys (placed f s (past_behind (0, length mid.1) p)) z mid last y k → vs ≡ ys ++ y ∷ [] → (m + k < 2 ^ 32 → j ≡ m + k)
      → EachRun r all fs s p (i + 1) x before last vs j
  each_run_goes r all rest f fs s p i x z y before mid last ys vs m k j e go called one ey ej now zs n c others hc =
      go now zs (k + n) c (also_run r rest f fs s p i x z y mid last now ys vs zs k n (k + n) e called one ey others (λ _. refl))
      (λ l. let a : j ≡ m + k = ej (omega (arith, l)) in let b : c ≡ j + n = hc (omega (arith, l, a)) in omega (arith, a, b))

  -- the members of what begins, and what watches them
  record Watched (r : ℕ) (fs : Networks ℕ) (e : Network ℕ) (s : Scope ℕ) (p : Past) (x y w : Datum) (now : Kept ℕ) (m n : ℕ) : Type 0 where
    states : List (State ℕ)
    answers : List Datum
    state : State ℕ
    is_count : length states ≡ members fs
    listed : y ≡ list (list_of answers)
    kept : now ≡ ([], states ++ state ∷ [])
    members_ran : RunEachWhere keys (by_row r (params_of s)) 0 (all_placed fs s p) x (member_states fs states) answers m
    watch_ran : RunsWhere keys (placed e s (past_behind (0, members fs) p)) (pair x (list (list_of answers))) state w n

  watched : (r : ℕ) (fs : Networks ℕ) (e : Network ℕ) (s : Scope ℕ) (p : Past) (x y w : Datum) (before mid now : Kept ℕ) (m n : ℕ) → before ≡ nothing
      → ListRuns keys r fs s p x before mid y m → Runs keys (placed e s (past_behind (0, length mid.1) p)) (pair x y) mid now w n
      → Watched r fs e s p x y w now m n
  watched r fs e s p x y w before mid now m n h all k =
      let each = all.2 in
      let places : mid ≡ ([], each.states) = each.added ∙ ap (λ k. joined k ([], each.states)) h in
      let count : length mid.1 ≡ members fs = ap (λ (k : Kept ℕ). length k.1) places ∙ each.is_count in
      let listed : list (list_of each.answers) ≡ y = sym (all.1 ∙ ap (λ vs. list (list_of vs)) each.answered) in
      record {
        states = each.states;
        answers = each.answers;
        state = k.state;
        is_count = each.is_count;
        listed = sym listed;
        kept = k.added ∙ ap (λ k0. joined k0 (one_place k.state)) places;
        members_ran = subst (λ q. RunEachWhere keys (by_row r (params_of s)) 0 (all_placed fs s q) x (member_states fs each.states) each.answers m)
            (ap (λ (k : Kept ℕ). past_behind (width_of k) p) h ∙ from_start p) each.runs;
        watch_ran = subst (λ v. RunsWhere keys (placed e s (past_behind (0, members fs) p)) (pair x v) k.state w n) (sym listed)
            (subst (λ j. RunsWhere keys (placed e s (past_behind (0, j) p)) (pair x y) k.state w n) count k.runs);
      }

  -- `pSwitch`
  pub p_switch_stays : (r : ℕ) (fs : Networks ℕ) (e t : Network ℕ) (s : Scope ℕ) (p : Past) (x y w : Datum) (net : Network ℕ) (s0 : Scope ℕ)
      (before mid now last : Kept ℕ) (m n c : ℕ)
      → (net ≡ p_switch r fs e t) × (s0 ≡ s) × (before ≡ nothing) → last ≡ now → ListRuns keys r fs s p x before mid y m
      → Runs keys (placed e s (past_behind (0, length mid.1) p)) (pair x y) mid now w n → event_in w ≡ None → (suc (m + n) < 2 ^ 32 → c ≡ suc (m + n))
      → RunsWhere keys (standing (p_switch r fs e t) s p) x (running net s0 last) y c
  p_switch_stays r fs e t s p x y w net s0 before mid now last m n c b h all k ev hc =
      let g = watched r fs e s p x y w before mid now m n b.2 all k in
      let state : running net s0 last ≡ p_switch_state r (member_states fs g.states) g.state t s =
      ap (λ z. running z s0 last) b.0 ∙ ap (λ z. running (p_switch r fs e t) z last) b.1 ∙ ap (running (p_switch r fs e t) s) (h ∙ g.kept)
      ∙ (λ i. p_switch_state r (members_more fs g.states (g.state ∷ []) g.is_count i)
      (head_state (behind_members (members fs) g.states (g.state ∷ []) g.is_count i)) t s) in
      p_switch_goes keys (standing (p_switch r fs e t) s p) r (all_placed fs s p) (placed e s (past_behind (0, members fs) p)) t s x (member_states fs g.states) g.answers
      m (outcome g.state w n) (outcome (running net s0 last) y c) (p_switch_by r fs e t s p) g.members_ran g.watch_ran ev (state, g.listed, hc)

  pub p_switch_ends : (r : ℕ) (fs : Networks ℕ) (e t : Network ℕ) (s s' s'' : Scope ℕ) (p q : Past) (x y w u z : Datum) (before mid now : Kept ℕ) (o : State ℕ)
      (m n k i c : ℕ) → before ≡ nothing → ListRuns keys r fs s p x before mid y m
      → Runs keys (placed e s (past_behind (0, length mid.1) p)) (pair x y) mid now w n → event_in w ≡ Some u
      → s' ≡ push_olds (push_param s u) (all_placed fs s p) → s'' ≡ s' → q ≡ None → RunsWhere keys (standing t s'' q) x o z k
      → (suc (m + n) < 2 ^ 32 → i ≡ suc (m + n)) → (i + k < 2 ^ 32 → c ≡ i + k) → RunsWhere keys (standing (p_switch r fs e t) s p) x o z c
  p_switch_ends r fs e t s s' s'' p q x y w u z before mid now o m n k i c h all j ev es e2 eq three h1 h2 =
      let g = watched r fs e s p x y w before mid now m n h all j in
      p_switch_fires keys (standing (p_switch r fs e t) s p) r (all_placed fs s p) (placed e s (past_behind (0, members fs) p)) t s s' x u
      (member_states fs g.states) g.answers m (outcome g.state w n) (outcome o z k) (outcome o z c) (p_switch_by r fs e t s p) g.members_ran g.watch_ran ev es
      (begun_runs t s' s'' q x z o k e2 eq three)
      (refl, refl, λ l. let a : i ≡ suc (m + n) = h1 (omega (arith, l)) in let b : c ≡ i + k = h2 (omega (arith, l, a)) in omega (arith, a, b))

  -- `(old k)`
  pub old_resumes : (k : ℕ) (s : Scope ℕ) (p : Past) (f : Frozen ℕ) (x y : Datum) (a : State ℕ) (m c : ℕ) → p ≡ None → frozen_at (frozens_of s) k ≡ Some f
      → RunsWhere keys f x a y m → (suc (m + 0) < 2 ^ 32 → c ≡ suc (m + 0)) → RunsWhere keys (standing (old k) s p) x a y c
  old_resumes k s p f x y a m c e h r hc = subst (λ q. RunsWhere keys (standing (old k) s q) x a y c) (sym e)
      (old_runs keys f x y a m c r hc (unstarted (old k) s) (R.old_new h))
