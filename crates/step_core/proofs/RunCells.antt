-- What one sample does to cells, by what the rows answer.
use Rattle.std.proofs.Common.{◌≡◌, ◌≢◌, ℕ, zero, suc, List, [], ◌∷◌, Option, refl, sym, ap, ◌∙◌, subst, arith}
use Rattle.sample_core.specs.Datum.{Datum, unit, bool, int, pair, no_event, event, list}
use Rattle.sample_core.specs.ValueView.{datum_of}
use Rattle.sample_core.specs.declared.sample.Sample.{Sample}
use Rattle.sample_core.specs.declared.sample.Sample.TheVariants as V
use Rattle.sample_core.specs.TypeTree.{TypeTree, pair_ty, event_ty}
use Rattle.sample_core.specs.HasType.{HasType, TypedParams, pair_has, unit_has}
use Rattle.leaf_core.specs.KeyTree.{KeyTree}
use Rattle.net_meaning.specs.SignalFunction.{latest_event, fold_events, if_event}
use Rattle.net_tree.specs.Network.{Network, accum_by}
use Rattle.net_meaning.specs.Typing as N
use Rattle.net_meaning.proofs.TypedLists.{typed_event}
use Rattle.cell_core.specs.Cell.{Cell, cell_step, accumulating, accumulator_of}
use Rattle.cell_core.specs.Start.{cell_start}
use Rattle.cell_core.specs.CellLaws.{put_in}
use Rattle.cell_core.proofs.KeptCells.{put_in-latest, put_in-if_event}
use Rattle.cell_core.specs.declared.form.Form.{Form}
use Rattle.cell_core.specs.declared.form.Form.TheVariants as F
use Rattle.state_core.specs.State.{Scope, Frozen, cell_state, accum_state, params_of, unstarted, paused}
use Rattle.step_core.specs.Stepping as G
use Rattle.step_core.specs.Stepping.{Resumes}
use Rattle.step_core.specs.RowTyping.{RowTyped}
use Rattle.step_core.specs.StateTyping as T
use Rattle.step_core.specs.StateTyping.{row_value}
use Rattle.step_core.specs.Called.{Called, IsConstant, IsPutIn}
use Rattle.step_core.specs.Flow as Flow
use Rattle.step_core.specs.Flow.{IsCell}
use Rattle.step_core.specs.Runs.{Ran, RunsWhere}
use Rattle.step_core.proofs.StateTypings.{row_typed, params_typed}
use Rattle.step_core.proofs.CalledRows.{called_value}

module _ (keys : List KeyTree) where
  -- what is no event stays
  pub no_event_stays : (g : ℕ) (ps : List Datum) (acc : Datum) (x : Sample) → ((v : Datum) → x ≢ V.Event v) → IsPutIn keys g ps acc (datum_of x) (datum_of x)
  no_event_stays g ps acc V.Unit isnt = refl
  no_event_stays g ps acc (V.Bool b) isnt = refl
  no_event_stays g ps acc (V.Int n) isnt = refl
  no_event_stays g ps acc (V.Pair p) isnt = refl
  no_event_stays g ps acc V.NoEvent isnt = refl
  no_event_stays g ps acc (V.Event v) isnt = absurd (isnt v refl)
  no_event_stays g ps acc (V.List vs) isnt = refl

  -- one visit, of a cell that is this and answers this
  one_visit : (w : Frozen ℕ) (x : Datum) (r q : Cell × Datum) → q ≡ r → Resumes (row_value keys) w x (cell_state r.0) r.1 1
      → Ran keys w x (cell_state q.0) q.1 1
  one_visit w x r q e k = record {
    visits = 1;
    resumes = subst (λ (z : Cell × Datum). Resumes (row_value keys) w x (cell_state z.0) z.1 1) (sym e) k;
    is_count = λ _. refl;
  }

  started_by : (form : Form) (c : Option ℕ) (x v : Datum) (q : Cell × Datum) (net : Network ℕ) (s : Scope ℕ) → IsCell net form c
      → IsConstant keys c (params_of s) v → q ≡ cell_start form v x → RunsWhere keys (unstarted net s) x (cell_state q.0) q.1 1
  started_by form c x v q net s Flow.is_i_pre h e A B (T.unstarted_typed (N.i_pre_typed r) ts) t =
      one_visit _ x _ q (e ∙ ap (λ u. cell_start F.IPre u x) (called_value keys _ _ unit v h r (params_typed keys ts) unit_has))
      (G.resume_unstarted G.start_i_pre)
  started_by form c x v q net s (Flow.is_delay {q = zero}) h e A B (T.unstarted_typed (N.delay_typed l u r) ts) t = absurd (omega (arith, l))
  started_by form c x v q net s (Flow.is_delay {q = suc n}) h e A B (T.unstarted_typed (N.delay_typed l u r) ts) t =
      one_visit _ x _ q (e ∙ ap (λ u. cell_start (F.Delay (suc n)) u x) (called_value keys _ _ unit v h r (params_typed keys ts) unit_has))
      (G.resume_unstarted G.start_delay)
  started_by form c x v q net s Flow.is_hold h e A B (T.unstarted_typed (N.hold_typed r) ts) t =
      one_visit _ x _ q (e ∙ ap (λ u. cell_start F.Hold u x) (called_value keys _ _ unit v h r (params_typed keys ts) unit_has))
      (G.resume_unstarted G.start_hold)
  started_by form c x v q net s (Flow.is_after {q = n}) h e A B (T.unstarted_typed (N.after_typed l r _) ts) t =
      one_visit _ x _ q (e ∙ ap (λ u. cell_start (F.After n) u x) (called_value keys _ _ unit v h r (params_typed keys ts) unit_has))
      (G.resume_unstarted (G.start_after refl))
  started_by form c x v q net s (Flow.is_repeatedly {q = zero}) h e A B (T.unstarted_typed (N.repeatedly_typed l u r _) ts) t = absurd (omega (arith, l))
  started_by form c x v q net s (Flow.is_repeatedly {q = suc n}) h e A B (T.unstarted_typed (N.repeatedly_typed l u r _) ts) t =
      one_visit _ x _ q (e ∙ ap (λ u. cell_start (F.Repeatedly (suc n)) u x) (called_value keys _ _ unit v h r (params_typed keys ts) unit_has))
      (G.resume_unstarted G.start_repeatedly)
  started_by form c x v q net s Flow.is_time h e A B ft t = one_visit _ x _ q e (G.resume_unstarted G.start_time)
  started_by form c x v q net s Flow.is_integral h e A B ft t = one_visit _ x _ q e (G.resume_unstarted G.start_integral)

  pub start_runs : (form : Form) (c : Option ℕ) (ps : List Datum) (x v : Datum) (q : Cell × Datum) → IsConstant keys c ps v → q ≡ cell_start form v x
      → (net : Network ℕ) (s : Scope ℕ) → IsCell net form c → params_of s ≡ ps → RunsWhere keys (unstarted net s) x (cell_state q.0) q.1 1
  start_runs form c ps x v q h e net s i es = started_by form c x v q net s i (subst (λ rs. IsConstant keys c rs v) (sym es) h) e

  pub cell_runs : (k : Cell) (dt : ℕ) (x : Datum) (q : Cell × Datum) → q ≡ cell_step k (dt, x)
      → RunsWhere keys (paused (cell_state k) dt) x (cell_state q.0) q.1 1
  cell_runs k dt x q e A B ft t = one_visit _ x _ q e (G.resume_paused (G.step_cell refl))

  -- what is put in for a sample is the event of the row's value
  put_in_row : (g : ℕ) (ps : List Datum) (acc x a : Datum) {Ps : List TypeTree} {V Z : TypeTree} → IsPutIn keys g ps acc x a
      → RowTyped keys g Ps (pair_ty Z V) Z → TypedParams Ps ps → HasType acc Z
      → HasType x (event_ty V) → a ≡ put_in (row_value keys g ps) acc x
  put_in_row g ps acc (event v) a h r tp ta t = h.2 ∙ ap event (called_value keys g ps (pair acc v) h.0 h.1 r tp (pair_has ta (typed_event v t)))
  put_in_row g ps acc unit a h r tp ta t = h
  put_in_row g ps acc (bool b) a h r tp ta t = h
  put_in_row g ps acc (int n) a h r tp ta t = h
  put_in_row g ps acc (pair v u) a h r tp ta t = h
  put_in_row g ps acc no_event a h r tp ta t = h
  put_in_row g ps acc (list vs) a h r tp ta t = h

  -- the accumulator and the answer are those of the rule
  module _ (g : ℕ) (ps : List Datum) (acc x a b y : Datum) (e : (accumulating b, y) ≡ cell_step (accumulating acc) (0, a))
      (p : a ≡ put_in (row_value keys g ps) acc x) where
    abbrev held_in : Cell → Datum
    held_in (accumulating u) = u
    held_in _ = unit

    now_held : b ≡ fold_events (row_value keys g ps) acc (x ∷ [])
    now_held = ap (λ (r : Cell × Datum). held_in r.0) e ∙ ap (λ u. latest_event acc (u ∷ [])) p ∙ put_in-latest (row_value keys g ps) acc x

    now_answered : y ≡ if_event x b
    now_answered =
        ap (λ (r : Cell × Datum). r.1) e ∙ ap (λ u. if_event u (latest_event acc (u ∷ []))) p
        ∙ put_in-if_event (row_value keys g ps) acc x (latest_event acc (put_in (row_value keys g ps) acc x ∷ []))
        ∙ ap (if_event x) (ap (λ u. latest_event acc (u ∷ [])) (sym p) ∙ sym (ap (λ (r : Cell × Datum). held_in r.0) e))

  pub gather_runs : (g z : ℕ) (ps : List Datum) (x v a : Datum) (q : Cell × Datum) → Called keys z ps unit v → IsPutIn keys g ps v x a
      → q ≡ cell_start F.AccumBy v a → (s : Scope ℕ) → params_of s ≡ ps
      → RunsWhere keys (unstarted (accum_by g z) s) x (accum_state g ps (accumulator_of q.0)) q.1 1
  gather_runs g z ps x v a q hz hp e s es A B (T.unstarted_typed (N.accum_typed {Ps = Ps} {Z = Z} rz _ rg _) ts) t =
      let tp : TypedParams Ps ps = subst (λ rs. TypedParams Ps rs) es (params_typed keys ts) in
      let ev : v ≡ row_value keys z ps unit = called_value keys z ps unit v hz rz tp unit_has in
      let tv : HasType v Z = subst (λ u. HasType u Z) (sym ev) (row_typed keys rz tp unit_has) in
      let p : a ≡ put_in (row_value keys g ps) v x = put_in_row g ps v x a hp rg tp tv t in
      let same : (accumulating (accumulator_of q.0), q.1) ≡ cell_start F.AccumBy v a = ap (λ (u : Cell × Datum). (accumulating (accumulator_of u.0), u.1)) e in
      let held : accumulator_of q.0 ≡ fold_events (row_value keys g ps) (row_value keys z ps unit) (x ∷ []) =
      now_held g ps v x a (accumulator_of q.0) q.1 same p ∙ ap (λ u. fold_events (row_value keys g ps) u (x ∷ [])) ev in
      record {
        visits = 1;
        resumes = subst (λ u. Resumes (row_value keys) (unstarted (accum_by g z) s) x (accum_state g ps (accumulator_of q.0)) u 1)
            (sym (now_answered g ps v x a (accumulator_of q.0) q.1 same p))
            (subst (λ rs. Resumes (row_value keys) (unstarted (accum_by g z) s) x (accum_state g rs (accumulator_of q.0))
            (if_event x (accumulator_of q.0)) 1) es
            (G.resume_unstarted (G.start_accum (subst (λ rs. accumulator_of q.0 ≡ fold_events (row_value keys g rs) (row_value keys z rs unit)
            (x ∷ [])) (sym es)
            held))));
        is_count = λ _. refl;
      }

  pub accum_runs : (g dt : ℕ) (ps : List Datum) (k : Cell) (h x a : Datum) (q : Cell × Datum) → q ≡ cell_step k (dt, a) → k ≡ accumulating h
      → IsPutIn keys g ps h x a → (d : ℕ)
      → RunsWhere keys (paused (accum_state g ps (accumulator_of k)) d) x (accum_state g ps (accumulator_of q.0)) q.1 1
  accum_runs g dt ps k h x a q e ek hp d A B (T.paused_typed (T.accum_state_typed {Z = Z} tp r ta)) t =
      let held : accumulator_of k ≡ h = ap accumulator_of ek in
      let here : q ≡ cell_step (accumulating h) (dt, a) = e ∙ ap (λ u. cell_step u (dt, a)) ek in
      let same : (accumulating (accumulator_of q.0), q.1) ≡ cell_step (accumulating h) (0, a) = ap
      (λ (u : Cell × Datum). (accumulating (accumulator_of u.0), u.1)) here in
      let p : a ≡ put_in (row_value keys g ps) h x = put_in_row g ps h x a hp r tp (subst (λ u. HasType u Z) held ta) t in
      record {
        visits = 1;
        resumes = subst (λ u. Resumes (row_value keys) (paused (accum_state g ps u) d) x (accum_state g ps (accumulator_of q.0)) q.1 1) (sym held)
            (subst (λ u. Resumes (row_value keys) (paused (accum_state g ps h) d) x (accum_state g ps (accumulator_of q.0)) u 1)
            (sym (now_answered g ps h x a (accumulator_of q.0) q.1 same p))
            (G.resume_paused (G.step_accum (now_held g ps h x a (accumulator_of q.0) q.1 same p))));
        is_count = λ _. refl;
      }
