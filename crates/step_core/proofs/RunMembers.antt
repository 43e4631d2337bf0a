-- What one sample does to members, and to the collections round them.
use Rattle.std.proofs.Common.{◌≡◌, ℕ, zero, suc, ◌+◌, ◌<◌, ◌≤◌, ◌^◌, pos, List, [], ◌∷◌, Some, None, refl, sym, ◌∙◌, subst, arith}
use Rattle.sample_core.specs.Datum.{Datum, pair, int, list, list_of}
use Rattle.sample_core.specs.TypeTree.{TypeTree, pair_ty, event_ty, list_ty}
use Rattle.sample_core.specs.HasType.{HasType, pair_has, list_has}
use Rattle.leaf_core.specs.KeyTree.{KeyTree}
use Rattle.net_tree.specs.Network.{Network, Networks, no_members, and_member}
use Rattle.net_meaning.specs.Typing as N
use Rattle.net_meaning.specs.Typing.{members}
use Rattle.state_core.specs.CountedForms.{same_input, route_by}
use Rattle.state_core.specs.State.{State, States, Scope, Frozen, Frozens, par_state, p_switch_state, no_state, and_state, no_frozen, and_frozen, unstarted, paused, params_of, push_param, push_olds, all_unstarted, all_paused}
use Rattle.step_core.specs.Stepping as G
use Rattle.net_meaning.specs.SignalFunction.{event_in}
use Rattle.step_core.specs.Stepping.{Starts, StartsEach, Resumes, StepsEach}
use Rattle.step_core.specs.StateTyping as T
use Rattle.step_core.specs.StateTyping.{FrozenTyped, row_value}
use Rattle.step_core.specs.Outcome.{Outcome, IsRan}
use Rattle.step_core.specs.Runs as R
use Rattle.step_core.specs.Runs.{Ran, RunsWhere, ParBy, PSwitchBy, RunsEach, RanEach, RunEachWhere, Router, to_all, by_row, handed, HandsOut, IsRouted}
use Rattle.step_core.proofs.StateTypings.{resumes_typed, each_starts_typed, each_steps_typed, route_typed, small_number, event_typed, pushed_param, pushed_olds, unstarted_all, paused_all, params_typed}
use Rattle.step_core.proofs.CalledRows.{called_value}
use Rattle.step_core.proofs.RunForms.{started, stepped}

module _ (keys : List KeyTree) where
  each_started : (fs : Networks ℕ) (s : Scope ℕ) {h : ℕ → Datum → Datum} {x : Datum} {i : ℕ} {as' : States ℕ} {ys : List Datum} {n : ℕ}
      → RunsEach keys h x i (all_unstarted fs s) as' ys n → StartsEach (row_value keys) h i fs s x as' ys n
  each_started no_members s R.runs_none = G.start_none
  each_started (and_member f fs) s (R.runs_also r rs) = G.start_also (started keys r) (each_started fs s rs)

  each_stepped : (bs : States ℕ) (d : ℕ) {h : ℕ → Datum → Datum} {x : Datum} {i : ℕ} {as' : States ℕ} {ys : List Datum} {n : ℕ}
      → RunsEach keys h x i (all_paused bs d) as' ys n → StepsEach (row_value keys) h i bs (d, x) as' ys n
  each_stepped no_state d R.runs_none = G.step_none
  each_stepped (and_state b bs) d (R.runs_also r rs) = G.step_also (stepped keys r) (each_stepped bs d rs)

  pub none_runs : (h : Router) (i : ℕ) (x : Datum) → RunEachWhere keys h i no_frozen x no_state [] 0
  none_runs h i x k A D B hd l tf t = record { visits = 0; runs = R.runs_none; is_count = λ _. refl }

  -- what is routed is what the member is handed, and typed
  routed_is : (h : Router) (i n : ℕ) (x z : Datum) (A D : TypeTree) → HandsOut keys h A D → i < n → n ≤ 64 → HasType x A → IsRouted keys h i x z → z
      ≡ handed keys h i x
  routed_is to_all i n x z A D hd l u t r = r
  routed_is (by_row r ps) i n x z A D hd l u t k = called_value keys r ps (pair x (int (pos i))) z k hd.1 hd.2 (pair_has t (small_number n i u l))

  handed_typed : (h : Router) (i n : ℕ) (x : Datum) {A D : TypeTree} → HandsOut keys h A D → i < n → n ≤ 64 → HasType x A → HasType (handed keys h i x) D
  handed_typed to_all i n x hd l u t = subst (λ X. HasType x X) hd t
  handed_typed (by_row r ps) i n x hd l u t = route_typed keys hd.1 hd.2 t u i l

  -- a member's run and those of the members after it
  pub also_runs : (h : Router) (i : ℕ) (w : Frozen ℕ) (ws : Frozens ℕ) (x z y : Datum) (a : State ℕ) (as' : States ℕ) (ys : List Datum) (m n c : ℕ)
      → IsRouted keys h i x z → RunsWhere keys w z a y m → RunEachWhere keys h (suc i) ws x as' ys n → (m + n < 2 ^ 32 → c ≡ m + n)
      → RunEachWhere keys h i (and_frozen w ws) x (and_state a as') (y ∷ ys) c
  also_runs h i w ws x z y a as' ys m n c hr hw hs hc zero A D B hd l tf t = elim tf [ ]
  also_runs h i w ws x z y a as' ys m n c hr hw hs hc (suc k) A D B hd l (T.and_frozen_typed tf tfs) t =
      let here : i < i + suc k = omega arith in
      let same : z ≡ handed keys h i x = routed_is h i (i + suc k) x z A D hd here l t hr in
      let tz : HasType z D = subst (λ v. HasType v D) (sym same) (handed_typed h i (i + suc k) x hd here l t) in
      let one : Ran keys w z a y m = hw D B tf tz in
      let rest : RanEach keys (handed keys h) x (suc i) ws as' ys n = hs k A D B hd (omega (arith, l)) tfs t in
      record {
        visits = one.visits + rest.visits;
        runs = R.runs_also (subst (λ v. Resumes (row_value keys) w v a y one.visits) same one.resumes) rest.runs;
        is_count = λ b.
            let e : m ≡ one.visits = one.is_count (omega (arith, b)) in
            let f : n ≡ rest.visits = rest.is_count (omega (arith, b)) in
            let g : c ≡ m + n = hc (omega (arith, b, e, f)) in
            omega (arith, e, f, g);
      }

  -- what led to an end, by another name of its state and its answer, and a count of its visits
  ended : (w : Frozen ℕ) (x y : Datum) (a : State ℕ) (n k : ℕ) (o : Outcome) → Resumes (row_value keys) w x a y n → (n < 2 ^ 32 → k ≡ n)
      → IsRan o a y k → Ran keys w x o.state o.answer o.visits
  ended w x y a n k o go ek hr = record {
    visits = n;
    resumes = subst (λ c. Resumes (row_value keys) w x c o.answer n) (sym hr.0) (subst (λ v. Resumes (row_value keys) w x a v n) (sym hr.1) go);
    is_count = λ l. let e : k ≡ n = ek l in hr.2 (omega (arith, e, l)) ∙ e;
  }

  -- `parB`
  pub par_runs : (w : Frozen ℕ) (ms : Frozens ℕ) (x : Datum) (bs : States ℕ) (ys : List Datum) (m : ℕ) (r : Outcome) → ParBy w ms
      → RunEachWhere keys to_all 0 ms x bs ys m → IsRan r (par_state bs) (list (list_of ys)) (suc (m + 0)) → RunsWhere keys w x r.state r.answer r.visits
  par_runs w ms x bs ys m r (R.par_new {fs = fs} {s = s}) hs hr A B (T.unstarted_typed (N.par_typed {B = B'} lo hi tf _) ts) t =
      let each : RanEach keys same_input x 0 (all_unstarted fs s) bs ys m = hs (members fs) A A B' refl (omega (arith, hi)) (unstarted_all keys tf ts) t in
      ended _ x _ _ (suc each.visits) _ r (G.resume_unstarted (G.start_par (each_started fs s each.runs)))
      (λ l. let i : m ≡ each.visits = each.is_count (omega (arith, l)) in omega (arith, i)) hr
  par_runs w ms x bs ys m r (R.par_on {as' = as'} {d = d}) hs hr A B (T.paused_typed (T.par_state_typed {n = k} {B = B'} hi tas)) t =
      let each : RanEach keys same_input x 0 (all_paused as' d) bs ys m = hs k A A B' refl (omega (arith, hi)) (paused_all keys d tas) t in
      ended _ x _ _ (suc each.visits) _ r (G.resume_paused (G.step_par (each_stepped as' d each.runs)))
      (λ l. let i : m ≡ each.visits = each.is_count (omega (arith, l)) in omega (arith, i)) hr

  -- the members of a `pSwitch` and what watches them went on: so it goes on, or it is taken over from
  record Watched (w : Frozen ℕ) (r : ℕ) (ms : Frozens ℕ) (q : Frozen ℕ) (t : Network ℕ) (s : Scope ℕ) (x : Datum) (bs : States ℕ) (ys : List Datum) (m : ℕ)
      (two : Outcome) (A B : TypeTree) : Type 0 where
    each : RanEach keys (route_by (row_value keys r (params_of s))) x 0 ms bs ys m
    watched : Ran keys q (pair x (list (list_of ys))) two.state two.answer two.visits
    kept : event_in two.answer ≡ None → Resumes (row_value keys) w x (p_switch_state r bs two.state t s) (list (list_of ys)) (suc (each.visits + watched.visits))
    fired : (u : Datum) (a : State ℕ) (y : Datum) (n : ℕ) → event_in two.answer ≡ Some u
        → Starts (row_value keys) t (push_olds (push_param s u) ms) x a y n → Resumes (row_value keys) w x a y (suc (each.visits + watched.visits) + n)
    over_typed : (u : Datum) → event_in two.answer ≡ Some u → FrozenTyped keys (unstarted t (push_olds (push_param s u) ms)) A B

  p_switch_watched : (w : Frozen ℕ) (r : ℕ) (ms : Frozens ℕ) (q : Frozen ℕ) (t : Network ℕ) (s : Scope ℕ) (x : Datum) (bs : States ℕ) (ys : List Datum) (m : ℕ)
      (two : Outcome) → PSwitchBy w r ms q t s → RunEachWhere keys (by_row r (params_of s)) 0 ms x bs ys m
      → RunsWhere keys q (pair x (list (list_of ys))) two.state two.answer two.visits
      → (A B : TypeTree) → FrozenTyped keys w A B → HasType x A → Watched w r ms q t s x bs ys m two A B
  p_switch_watched w r ms q t s x bs ys m two (R.p_switch_new {fs = fs} {e = e}) hs hq A B
      (T.unstarted_typed (N.p_switch_typed {Ps = Ps} {B = B'} {C = C} {D = D} lo hi _ rr tf _ te tg) ts) h =
      let each : RanEach keys (route_by (row_value keys r (params_of s))) x 0 (all_unstarted fs s) bs ys m =
      hs (members fs) A D B' (Ps, rr, params_typed keys ts) (omega (arith, hi)) (unstarted_all keys tf ts) h in
      let tl : HasType (list (list_of ys)) (list_ty B') = list_has
      (each_starts_typed keys (each_started fs s each.runs) tf ts (λ i b. route_typed keys rr (params_typed keys ts) h hi i (omega (arith, b)))).1 in
      let tq : FrozenTyped keys (unstarted e s) (pair_ty A (list_ty B')) (event_ty C) = T.unstarted_typed te ts in
      let watched : Ran keys (unstarted e s) (pair x (list (list_of ys))) two.state two.answer two.visits =
      hq (pair_ty A (list_ty B')) (event_ty C) tq (pair_has h tl) in
      record {
        each = each;
        watched = watched;
        kept = λ ev. G.resume_unstarted (G.start_p_switch (each_started fs s each.runs) (started keys watched.resumes) ev);
        fired = λ u a y n ev o. G.resume_unstarted (G.fire_p_switch (each_started fs s each.runs) (started keys watched.resumes) ev o);
        over_typed = λ u ev. T.unstarted_typed tg
            (pushed_olds keys (pushed_param keys ts (event_typed (resumes_typed keys watched.resumes tq (pair_has h tl)).1 ev)) (unstarted_all keys tf ts));
      }
  p_switch_watched w r ms q t s x bs ys m two (R.p_switch_on {as' = as'} {b = b0} {d = d}) hs hq A B
      (T.paused_typed (T.p_switch_state_typed {n = k} {Ps = Ps} {A = A'} {B = B'} {C = C} {D = D} hi rr tas tb ts tg)) h =
      let each : RanEach keys (route_by (row_value keys r (params_of s))) x 0 (all_paused as' d) bs ys m =
      hs k A D B' (Ps, rr, params_typed keys ts) (omega (arith, hi)) (paused_all keys d tas) h in
      let tl : HasType (list (list_of ys)) (list_ty B') = list_has
      (each_steps_typed keys (each_stepped as' d each.runs) tas (λ i b. route_typed keys rr (params_typed keys ts) h hi i (omega (arith, b)))).1 in
      let tq : FrozenTyped keys (paused b0 d) (pair_ty A (list_ty B')) (event_ty C) = T.paused_typed tb in
      let watched : Ran keys (paused b0 d) (pair x (list (list_of ys))) two.state two.answer two.visits =
      hq (pair_ty A (list_ty B')) (event_ty C) tq (pair_has h tl) in
      record {
        each = each;
        watched = watched;
        kept = λ ev. G.resume_paused (G.step_p_switch (each_stepped as' d each.runs) (stepped keys watched.resumes) ev);
        fired = λ u a y n ev o. G.resume_paused (G.step_p_switch_over (each_stepped as' d each.runs) (stepped keys watched.resumes) ev o);
        over_typed = λ u ev. T.unstarted_typed tg
            (pushed_olds keys (pushed_param keys ts (event_typed (resumes_typed keys watched.resumes tq (pair_has h tl)).1 ev)) (paused_all keys d tas));
      }

  -- `pSwitch` that goes on
  pub p_switch_goes : (w : Frozen ℕ) (r : ℕ) (ms : Frozens ℕ) (q : Frozen ℕ) (t : Network ℕ) (s : Scope ℕ) (x : Datum) (bs : States ℕ) (ys : List Datum) (m : ℕ)
      (two o : Outcome) → PSwitchBy w r ms q t s → RunEachWhere keys (by_row r (params_of s)) 0 ms x bs ys m
      → RunsWhere keys q (pair x (list (list_of ys))) two.state two.answer two.visits → event_in two.answer ≡ None
      → IsRan o (p_switch_state r bs two.state t s) (list (list_of ys)) (suc (m + two.visits)) → RunsWhere keys w x o.state o.answer o.visits
  p_switch_goes w r ms q t s x bs ys m two o by hs hq ev hr A B tw h =
      let g = p_switch_watched w r ms q t s x bs ys m two by hs hq A B tw h in
      ended w x _ _ (suc (g.each.visits + g.watched.visits)) _ o (g.kept ev)
      (λ l. let i : m ≡ g.each.visits = g.each.is_count (omega (arith, l)) in
      let j : two.visits ≡ g.watched.visits = g.watched.is_count (omega (arith, l)) in omega (arith, i, j)) hr

  -- and one that is taken over from
  pub p_switch_fires : (w : Frozen ℕ) (r : ℕ) (ms : Frozens ℕ) (q : Frozen ℕ) (t : Network ℕ) (s s' : Scope ℕ) (x u : Datum) (bs : States ℕ) (ys : List Datum)
      (m : ℕ) (two over o : Outcome) → PSwitchBy w r ms q t s → RunEachWhere keys (by_row r (params_of s)) 0 ms x bs ys m
      → RunsWhere keys q (pair x (list (list_of ys))) two.state two.answer two.visits → event_in two.answer ≡ Some u → s' ≡ push_olds (push_param s u) ms
      → RunsWhere keys (unstarted t s') x over.state over.answer over.visits
      → IsRan o over.state over.answer (suc (m + two.visits) + over.visits) → RunsWhere keys w x o.state o.answer o.visits
  p_switch_fires w r ms q t s s' x u bs ys m two over o by hs hq ev es ho hr A B tw h =
      let g = p_switch_watched w r ms q t s x bs ys m two by hs hq A B tw h in
      let third : Ran keys (unstarted t (push_olds (push_param s u) ms)) x over.state over.answer over.visits = subst
      (λ v. RunsWhere keys (unstarted t v) x over.state over.answer over.visits) es ho A B (g.over_typed u ev) h in
      ended w x _ _ (suc (g.each.visits + g.watched.visits) + third.visits) _ o
      (g.fired u over.state over.answer third.visits ev (started keys third.resumes))
      (λ l. let i : m ≡ g.each.visits = g.each.is_count (omega (arith, l)) in
      let j : two.visits ≡ g.watched.visits = g.watched.is_count (omega (arith, l)) in
      let k : over.visits ≡ third.visits = third.is_count (omega (arith, l)) in omega (arith, i, j, k)) hr
