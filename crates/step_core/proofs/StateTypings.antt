-- What starts in a typed scope and what steps from a typed state is typed again, and so is its answer.
use Rattle.std.proofs.Common.{◌≡◌, ℕ, suc, ◌+◌, ◌≤◌, ◌<◌, min, List, [], ◌∷◌, ◌++◌, length, ap, Bool, true, false, if◌then◌else◌, nat_le, pos, refl, sym, subst, arith, Some, w64, lit<}
use Rattle.std.proofs.lemmas.Int.{fits_signed_from_abs}
use Rattle.std.proofs.lemmas.List.{length-take}
use Rattle.sample_core.specs.Datum.{Datum, Datums, int, left, right, list_of, elements, items_of}
use Rattle.sample_core.specs.TypeTree.{TypeTree, int_ty, pair_ty, event_ty, list_ty}
use Rattle.sample_core.specs.HasType.{HasType, HaveType, unit_has, int_has, pair_has, no_event_has, event_has, list_has, end_has, more_has, TypedParams, no_params, and_param}
use Rattle.leaf_core.specs.ExpressionValue.{value_of}
use Rattle.leaf_core.specs.KeyTree.{KeyTree}
use Rattle.leaf_core.proofs.Soundness.{typed_value, typed_left, typed_right, typed_wrapped}
use Rattle.net_tree.specs.Network.{Timing, at_once, delayed, Network, Networks}
use Rattle.net_meaning.specs.Typing as T
use Rattle.net_meaning.specs.Typing.{Arrow, OldAt, old_here, old_after, copies, members, arrow, AnyType, Typed, AllTyped, TypedSamples, no_sample, and_sample, no_value, and_value}
use Rattle.net_meaning.proofs.SameNets.{TypedParams-append}
use Rattle.net_meaning.proofs.TypedLists.{samples_append, typed_latest_event, typed_fold_events, typed_if_event}
use Rattle.state_core.specs.CountedForms.{route_by}
use Rattle.cell_core.specs.Cell.{Cell, count_down, due, after_cell, cell_step}
use Rattle.state_core.specs.State.{State, States, Scope, Frozens, Frozen, append_frozens, params_of, frozens_of, frozen_at, push_param, push_olds, all_unstarted, all_paused, frozen_list, first_frozen, chosen_frozen, turned}
use Rattle.step_core.specs.Stepping as G
use Rattle.step_core.specs.Stepping.{Starts, StartsEach, Resumes, ResumesEach, Steps, StepsEach}
use Rattle.net_meaning.specs.SignalFunction.{event_in, heard}
use Rattle.step_core.specs.Stepping.{restart_in}
use Rattle.state_core.specs.EmptyScope.{empty_scope}
use Rattle.step_core.specs.RowTyping.{RowTyped, expression_in}
use Rattle.step_core.specs.StateTyping.{row_value, CellTyped, previous_typed, queue_typed, latest_typed, accumulating_typed, waiting_typed, over_typed, recurring_typed, ticking_typed, summing_typed, StateTyped, StatesTyped, ScopeTyped, FrozensTyped, FrozenTyped, arr_state_typed, seq_state_typed, first_state_typed, par_state_typed, loop_state_typed, cell_state_typed, accum_state_typed, switch_state_typed, r_switch_state_typed, k_switch_state_typed, p_switch_state_typed, rp_switch_state_typed, no_state_typed, and_state_typed, scope_typed, no_frozen_typed, and_frozen_typed, unstarted_typed, paused_typed}
use Rattle.step_core.specs.Runs.{EachIs, MemberStatesTyped}
use Rattle.step_core.proofs.ChosenMembers.{each-take, EachStarts, choices, each-chosen_frozen}

-- what holds of both holds of the one chosen
chosen : {A : Type 0} (P : A → Type 0) (b : Bool) {u v : A} → P u → P v → P (if b then u else v)
chosen P true h k = h
chosen P false h k = k

-- what an event carries has the event's type
pub event_typed : {C : TypeTree} {w c : Datum} → HasType w (event_ty C) → event_in w ≡ Some c → HasType c C
event_typed no_event_has e = absurd (cc)
event_typed {C = C} {c = c} (event_has {v = v} h) e = let same : v ≡ c = cc in subst (λ u. HasType u C) same h

-- and so have the sample and the event that were cut
pub cut_typed : {D C : TypeTree} {x u c : Datum} → HasType x (pair_ty D (event_ty C)) → restart_in x ≡ Some (u, c) → HasType u D × HasType c C
cut_typed (pair_has h no_event_has) e = absurd (cc)
cut_typed {D = D} {C = C} {u = u} {c = c} (pair_has {v = w} h (event_has {v = v} k)) e =
    let same : (w, v) ≡ (u, c) = cc in
    subst (λ (r : Datum × Datum). HasType r.0 D × HasType r.1 C) same (h, k)

-- what is heard of two typed answers
heard_typed : (tm : Timing) {B : TypeTree} {v y : Datum} → HasType v B → HasType y B → HasType (heard tm v y) B
heard_typed at_once h k = k
heard_typed delayed h k = h

-- and the elements of a list value
items_typed : {v : Datum} {V : TypeTree} → HasType v (list_ty V) → EachIs (λ u. HasType u V) (items_of v)
items_typed (list_has h) = each h
  where
    each : {vs : Datums} {V : TypeTree} → HaveType vs V → EachIs (λ u. HasType u V) (elements vs)
    each end_has = tt
    each (more_has h hs) = (h, each hs)

zero_typed : HasType (int (pos 0)) int_ty
zero_typed = int_has (fits_signed_from_abs w64 (pos 0) (lit< tt))

-- the int of a member is small
pub small_number : (n i : ℕ) → n ≤ 64 → i < n → HasType (int (pos i)) int_ty
small_number n i l h = int_has (fits_signed_from_abs w64 (pos i) (omega arith))

-- The cells.
counted_down : {A : TypeTree} (d : ℕ) (is : List (ℕ × Datum)) → TypedSamples A is → TypedSamples A (count_down d is)
counted_down d is no_sample = no_sample
counted_down d is (and_sample {xs = is'} h hs) = and_sample h (counted_down d is' hs)

due_typed : {A : TypeTree} (d : ℕ) (out : Datum) (is : List (ℕ × Datum)) → HasType out A → TypedSamples A is → HasType (due d out is).0 A
    × TypedSamples A (due d out is).1
due_typed d out is h no_sample = (h, no_sample)
due_typed {A = A} d out is h (and_sample {x = i} {xs = is'} k ks) =
    chosen (λ (r : Datum × List (ℕ × Datum)). HasType r.0 A × TypedSamples A r.1) (nat_le i.0 d) (due_typed d i.1 is' k ks)
    (h, counted_down d (i ∷ is') (and_sample k ks))

pub after_cell_typed : {A C : TypeTree} (q : ℕ) (c : Datum) → HasType c C → CellTyped (after_cell q c).0 A (event_ty C)
    × HasType (after_cell q c).1 (event_ty C)
after_cell_typed {A} {C} q c h = chosen (λ (r : Cell × Datum). CellTyped r.0 A (event_ty C) × HasType r.1 (event_ty C)) (nat_le q 0) (over_typed, event_has h)
    (waiting_typed h, no_event_has)

pub cell_step_typed : {k : Cell} {A B : TypeTree} (x : ℕ × Datum) → CellTyped k A B → HasType x.1 A → CellTyped (cell_step k x).0 A B
    × HasType (cell_step k x).1 B
cell_step_typed x (previous_typed h) j = (previous_typed j, h)
cell_step_typed x (queue_typed {out = out} {is = is} h hs) j =
    let r = due_typed x.0 out is h hs in
    (queue_typed r.0 (samples_append _ _ r.1 (and_sample j no_sample)), r.0)
cell_step_typed x (latest_typed {v = v} h) j = let k = typed_latest_event v (x.1 ∷ []) h (and_value j no_value) in (latest_typed k, k)
cell_step_typed x (accumulating_typed {v = v} h) j = let k = typed_latest_event v (x.1 ∷ []) h (and_value j no_value) in
    (accumulating_typed k, typed_if_event x.1 _ j k)
cell_step_typed x (waiting_typed {left = left} {A = A} {C = C} h) j =
    chosen (λ (r : Cell × Datum). CellTyped r.0 A (event_ty C) × HasType r.1 (event_ty C)) (nat_le left x.0) (over_typed, event_has h)
    (waiting_typed h, no_event_has)
cell_step_typed x over_typed j = (over_typed, no_event_has)
cell_step_typed x (recurring_typed {left = left} {A = A} {C = C} l h) j =
    chosen (λ (r : Cell × Datum). CellTyped r.0 A (event_ty C) × HasType r.1 (event_ty C)) (nat_le left x.0) (recurring_typed l h, event_has h)
    (recurring_typed l h, no_event_has)
cell_step_typed x ticking_typed j = (ticking_typed, typed_wrapped _)
cell_step_typed x summing_typed j = (summing_typed, typed_wrapped _)

module _ (keys : List KeyTree) where
  -- the rows of a table have typed values
  pub row_typed : {k : ℕ} {Ps : List TypeTree} {A B : TypeTree} {ps : List Datum} {x : Datum} → RowTyped keys k Ps A B → TypedParams Ps ps → HasType x A
      → HasType (row_value keys k ps x) B
  row_typed {Ps = Ps} {A = A} {B = B} {ps = ps} {x = x} r h j =
      subst (λ o. HasType (value_of (expression_in o) ps x) B) (sym r.is_row) (typed_value r.expr Ps A B r.is_typed ps x h j)

  -- what is routed to a member
  pub route_typed : {r n : ℕ} {Ps : List TypeTree} {A D : TypeTree} {ps : List Datum} {v : Datum} → RowTyped keys r Ps (pair_ty A int_ty) D → TypedParams Ps ps
      → HasType v A → n ≤ 64 → (j : ℕ) → j < n → HasType (route_by (row_value keys r ps) j v) D
  route_typed {n = n} r h k l j i = row_typed r h (pair_has k (small_number n j l i))

  -- Scopes.
  pub empty_typed : ScopeTyped keys empty_scope [] []
  empty_typed = scope_typed no_params no_frozen_typed

  pub params_typed : {s : Scope ℕ} {Ps : List TypeTree} {Os : List Arrow} → ScopeTyped keys s Ps Os → TypedParams Ps (params_of s)
  params_typed (scope_typed h hs) = h

  pub frozens_typed : {s : Scope ℕ} {Ps : List TypeTree} {Os : List Arrow} → ScopeTyped keys s Ps Os → FrozensTyped keys (frozens_of s) Os
  frozens_typed (scope_typed h hs) = hs

  append_typed : {fs gs : Frozens ℕ} {Os Qs : List Arrow} → FrozensTyped keys fs Os → FrozensTyped keys gs Qs
      → FrozensTyped keys (append_frozens fs gs) (Os ++ Qs)
  append_typed no_frozen_typed k = k
  append_typed (and_frozen_typed h hs) k = and_frozen_typed h (append_typed hs k)

  pub pushed_param : {s : Scope ℕ} {c : Datum} {Ps : List TypeTree} {Os : List Arrow} {C : TypeTree} → ScopeTyped keys s Ps Os → HasType c C
      → ScopeTyped keys (push_param s c) (Ps ++ C ∷ []) Os
  pushed_param {c = c} {Ps = Ps} {C = C} (scope_typed {ps = ps} h hs) k = scope_typed (TypedParams-append Ps (C ∷ []) ps (c ∷ []) h (and_param k no_params)) hs

  pub pushed_olds : {s : Scope ℕ} {gs : Frozens ℕ} {Ps : List TypeTree} {Os Qs : List Arrow} → ScopeTyped keys s Ps Os → FrozensTyped keys gs Qs
      → ScopeTyped keys (push_olds s gs) Ps (Os ++ Qs)
  pushed_olds (scope_typed h hs) k = scope_typed h (append_typed hs k)

  pub unstarted_all : {fs : Networks ℕ} {s : Scope ℕ} {Ps : List TypeTree} {Os : List Arrow} {A B : TypeTree} → AllTyped (RowTyped keys) AnyType Ps Os fs A B
      → ScopeTyped keys s Ps Os → FrozensTyped keys (all_unstarted fs s) (copies (members fs) (arrow A B))
  unstarted_all T.no_members_typed h = no_frozen_typed
  unstarted_all (T.and_member_typed k ks) h = and_frozen_typed (unstarted_typed k h) (unstarted_all ks h)

  pub paused_all : {as' : States ℕ} {n : ℕ} {A B : TypeTree} (d : ℕ) → StatesTyped keys as' n A B → FrozensTyped keys (all_paused as' d) (copies n (arrow A B))
  paused_all d no_state_typed = no_frozen_typed
  paused_all d (and_state_typed h hs) = and_frozen_typed (paused_typed h) (paused_all d hs)

  -- Members of an `rpSwitchB`.
  unstarted_members : {fs : Networks ℕ} {s : Scope ℕ} {Ps : List TypeTree} {Os : List Arrow} {D B : TypeTree} → AllTyped (RowTyped keys) AnyType Ps Os fs D B
      → ScopeTyped keys s Ps Os → MemberStatesTyped keys D B (frozen_list (all_unstarted fs s))
  unstarted_members T.no_members_typed h = tt
  unstarted_members (T.and_member_typed k ks) h = (unstarted_typed k h, unstarted_members ks h)

  pub first_typed : {fs : Networks ℕ} {s : Scope ℕ} {Ps : List TypeTree} {Os : List Arrow} {D B : TypeTree} → AllTyped (RowTyped keys) AnyType Ps Os fs D B
      → ScopeTyped keys s Ps Os → MemberStatesTyped keys D B (first_frozen fs s)
  first_typed {D = D} {B = B} ks h = each-take (λ f. FrozenTyped keys f D B) 64 _ (unstarted_members ks h)

  pub paused_members : {as' : States ℕ} {n : ℕ} {D B : TypeTree} (d : ℕ) → StatesTyped keys as' n D B → MemberStatesTyped keys D B (frozen_list (all_paused as' d))
  paused_members d no_state_typed = tt
  paused_members d (and_state_typed h hs) = (paused_typed h, paused_members d hs)

  paused_count : {as' : States ℕ} {n : ℕ} {D B : TypeTree} (d : ℕ) → StatesTyped keys as' n D B → length (frozen_list (all_paused as' d)) ≡ n
  paused_count d no_state_typed = refl
  paused_count d (and_state_typed h hs) = ap suc (paused_count d hs)

  started_members : {t : Network ℕ} {s : Scope ℕ} {Ps : List TypeTree} {Os : List Arrow} {D B : TypeTree} (V : TypeTree) (vs : List Datum)
      → Typed (RowTyped keys) AnyType (Ps ++ V ∷ []) Os t D B → ScopeTyped keys s Ps Os → EachIs (λ u. HasType u V) vs
      → EachStarts (λ f. FrozenTyped keys f D B) t s vs
  started_members V [] k h hs = tt
  started_members V (v ∷ vs) k h hs = (unstarted_typed k (pushed_param h hs.0), started_members V vs k h hs.1)

  -- what is chosen of typed ones, and of what starts under typed values
  pub chosen_typed : {t : Network ℕ} {s : Scope ℕ} {Ps : List TypeTree} {Os : List Arrow} {D B V : TypeTree} (ms : List (Frozen ℕ)) (w : Datum)
      → Typed (RowTyped keys) AnyType (Ps ++ V ∷ []) Os t D B → ScopeTyped keys s Ps Os → HasType w (pair_ty (list_ty int_ty) (list_ty V))
      → MemberStatesTyped keys D B ms → MemberStatesTyped keys D B (chosen_frozen t s ms w)
  chosen_typed {t = t} {s = s} {D = D} {B = B} {V = V} ms w k h hw hs =
      each-chosen_frozen (λ f. FrozenTyped keys f D B) t s ms w hs (started_members V (items_of (right w)) k h (items_typed (typed_right hw)))

  -- so what runs on a typed sample is typed
  turned_typed : {t : Network ℕ} {s : Scope ℕ} {m : ℕ} {x : Datum} {Ps : List TypeTree} {Os : List Arrow} {D B C V : TypeTree} (ms : List (Frozen ℕ))
      → RowTyped keys m Ps C (pair_ty (list_ty int_ty) (list_ty V)) → Typed (RowTyped keys) AnyType (Ps ++ V ∷ []) Os t D B → ScopeTyped keys s Ps Os
      → MemberStatesTyped keys D B ms → HasType x (pair_ty D (event_ty C)) → MemberStatesTyped keys D B (turned (row_value keys m (params_of s)) t s ms x)
  turned_typed ms r k h hs (pair_has j no_event_has) = hs
  turned_typed ms r k h hs (pair_has j (event_has i)) = chosen_typed ms _ k h (row_typed r (params_typed h) i) hs

  -- and at most 64 do
  turned_few : (r : Datum → Datum) (t : Network ℕ) (s : Scope ℕ) {x : Datum} {D C : TypeTree} (ms : List (Frozen ℕ)) → length ms ≤ 64
      → HasType x (pair_ty D (event_ty C)) → length (turned r t s ms x) ≤ 64
  turned_few r t s ms l (pair_has j no_event_has) = l
  turned_few r t s ms l (pair_has j (event_has {v = c} i)) =
      let few : length (chosen_frozen t s ms (r c)) ≡ min 64 (length (choices t s ms (r c))) = length-take 64 _ in
      omega (arith, few)

  -- the frozen network k is there, and typed as it is said to be
  pub old_there : {fs : Frozens ℕ} {Os : List Arrow} {k : ℕ} {o : Arrow} → FrozensTyped keys fs Os → OldAt Os k o → (f : Frozen ℕ) × (frozen_at fs k ≡ Some f)
      × FrozenTyped keys f o.input o.output
  old_there no_frozen_typed i = elim i [ ]
  old_there (and_frozen_typed {f = f} h hs) old_here = (f, refl, h)
  old_there (and_frozen_typed h hs) (old_after i) = old_there hs i

  pub old_typed : {s : Scope ℕ} {Ps : List TypeTree} {Os : List Arrow} {k : ℕ} {o : Arrow} {f : Frozen ℕ} → ScopeTyped keys s Ps Os → OldAt Os k o
      → frozen_at (frozens_of s) k ≡ Some f → FrozenTyped keys f o.input o.output
  old_typed {o = o} {f = f} h i e =
      let r = old_there (frozens_typed h) i in
      let same : r.0 ≡ f = cc in
      subst (λ g. FrozenTyped keys g o.input o.output) same r.2

  mutual
    -- what starts in a typed scope on a typed sample
    pub starts_typed : {net : Network ℕ} {s : Scope ℕ} {x : Datum} {a : State ℕ} {y : Datum} {n : ℕ} {Ps : List TypeTree} {Os : List Arrow} {A B : TypeTree} →
        Starts (row_value keys) net s x a y n → Typed (RowTyped keys) AnyType Ps Os net A B → ScopeTyped keys s Ps Os → HasType x A → StateTyped keys a A B
        × HasType y B
    starts_typed G.start_arr (T.arr_typed r) h j = (arr_state_typed (params_typed h) r, row_typed r (params_typed h) j)
    starts_typed (G.start_seq kf kg) (T.seq_typed f g) h j =
        let one = starts_typed kf f h j in
        let two = starts_typed kg g h one.1 in
        (seq_state_typed one.0 two.0, two.1)
    starts_typed (G.start_first kf) (T.first_typed f _) h j =
        let one = starts_typed kf f h (typed_left j) in
        (first_state_typed one.0, pair_has one.1 (typed_right j))
    starts_typed (G.start_par ks) (T.par_typed l u fs _) h j =
        let all = each_starts_typed ks fs h (λ i b. j) in
        (par_state_typed u all.0, list_has all.1)
    starts_typed (G.start_loop kf) (T.loop_typed r _ f) h j =
        let one = starts_typed kf f h (pair_has j (row_typed r (params_typed h) unit_has)) in
        (loop_state_typed (typed_right one.1) one.0, typed_left one.1)
    starts_typed G.start_i_pre (T.i_pre_typed r) h j = (cell_state_typed (previous_typed j), row_typed r (params_typed h) unit_has)
    starts_typed G.start_delay (T.delay_typed l u r) h j =
        let v = row_typed r (params_typed h) unit_has in
        (cell_state_typed (queue_typed v (and_sample j no_sample)), v)
    starts_typed (G.start_hold {x = x}) (T.hold_typed r) h j =
        let v = typed_latest_event _ (x ∷ []) (row_typed r (params_typed h) unit_has) (and_value j no_value) in
        (cell_state_typed (latest_typed v), v)
    starts_typed (G.start_accum {x = x} {acc = acc} e) (T.accum_typed {Z = Z} r _ g _) h j =
        let v : HasType acc Z = subst (λ w. HasType w Z) (sym e) (typed_fold_events _ _ (x ∷ []) (λ w k. row_typed g (params_typed h) k)
        (row_typed r (params_typed h) unit_has) (and_value j no_value)) in
        (accum_state_typed (params_typed h) g v, typed_if_event x acc j v)
    starts_typed (G.start_after {q = q} e) (T.after_typed {A = A} {C = C} l r _) h j =
        let v = subst (λ (o : Cell × Datum). CellTyped o.0 A (event_ty C) × HasType o.1 (event_ty C)) e
        (after_cell_typed q _ (row_typed r (params_typed h) unit_has)) in
        (cell_state_typed v.0, v.1)
    starts_typed G.start_repeatedly (T.repeatedly_typed l u r _) h j = (
      cell_state_typed (recurring_typed l (row_typed r (params_typed h) unit_has)),
      no_event_has,
    )
    starts_typed G.start_time T.time_typed h j = (cell_state_typed ticking_typed, zero_typed)
    starts_typed G.start_integral T.integral_typed h j = (cell_state_typed summing_typed, zero_typed)
    starts_typed (G.start_switch kf e) (T.switch_typed f t) h j =
        let one = starts_typed kf f h j in
        (switch_state_typed one.0 h t, typed_left one.1)
    starts_typed (G.fire_switch {tm = tm} kf e kt) (T.switch_typed f t) h j =
        let one = starts_typed kf f h j in
        let two = starts_typed kt t (pushed_param h (event_typed (typed_right one.1) e)) j in
        (two.0, heard_typed tm (typed_left one.1) two.1)
    starts_typed (G.start_r_switch e kf) (T.r_switch_typed f t) h j =
        let one = starts_typed kf f h (typed_left j) in
        (r_switch_state_typed one.0 h t, one.1)
    starts_typed (G.cut_at_once e kt) (T.r_switch_typed f t) h j =
        let cut = cut_typed j e in
        let one = starts_typed kt t (pushed_param h cut.1) cut.0 in
        (r_switch_state_typed one.0 h t, one.1)
    starts_typed (G.cut_delayed e kf kt) (T.r_switch_typed f t) h j =
        let cut = cut_typed j e in
        let one = starts_typed kf f h cut.0 in
        let two = starts_typed kt t (pushed_param h cut.1) cut.0 in
        (r_switch_state_typed two.0 h t, one.1)
    starts_typed (G.start_k_switch kf ke e) (T.k_switch_typed f _ g t) h j =
        let one = starts_typed kf f h j in
        let two = starts_typed ke g h (pair_has j one.1) in
        (k_switch_state_typed one.0 two.0 h t, one.1)
    starts_typed (G.fire_k_switch kf ke e kt) (T.k_switch_typed f _ g t) h j =
        let one = starts_typed kf f h j in
        let two = starts_typed ke g h (pair_has j one.1) in
        starts_typed kt t (pushed_olds (pushed_param h (event_typed two.1 e)) (and_frozen_typed (unstarted_typed f h) no_frozen_typed)) j
    starts_typed (G.start_p_switch ks ke e) (T.p_switch_typed l u _ r fs _ g t) h j =
        let all = each_starts_typed ks fs h (λ i b. route_typed r (params_typed h) j u i (omega arith)) in
        let two = starts_typed ke g h (pair_has j (list_has all.1)) in
        (p_switch_state_typed u r all.0 two.0 h t, list_has all.1)
    starts_typed (G.fire_p_switch ks ke e kt) (T.p_switch_typed l u _ r fs _ g t) h j =
        let all = each_starts_typed ks fs h (λ i b. route_typed r (params_typed h) j u i (omega arith)) in
        let two = starts_typed ke g h (pair_has j (list_has all.1)) in
        starts_typed kt t (pushed_olds (pushed_param h (event_typed two.1 e)) (unstarted_all fs h)) j
    starts_typed (G.start_old e kr) (T.old_typed i) h j = resumes_typed kr (old_typed h i e) j
    starts_typed (G.start_initial_out kf) (T.initial_out_typed r f) h j = ((starts_typed kf f h j).0, row_typed r (params_typed h) unit_has)
    starts_typed (G.start_initial_in kf) (T.initial_in_typed r f) h j = starts_typed kf f h (row_typed r (params_typed h) unit_has)
    starts_typed (G.start_rp_switch {fs = fs} {m = m} {t = t} {s = s} ks) (T.rp_switch_typed l u ts r k _) h j =
        let before = first_frozen fs s in
        let few : length before ≡ min 64 (length (frozen_list (all_unstarted fs s))) = length-take 64 _ in
        let all = resumes_each_typed ks (turned_typed before r k h (first_typed ts h) j) (typed_left j) in
        (rp_switch_state_typed (turned_few (row_value keys m (params_of s)) t s before (omega (arith, few)) j) r all.0 h k, list_has all.1)

    -- the members from i on that start, each on a typed sample
    pub each_starts_typed : {g : ℕ → Datum → Datum} {i : ℕ} {fs : Networks ℕ} {s : Scope ℕ} {x : Datum} {as' : States ℕ} {ys : List Datum} {n : ℕ}
        {Ps : List TypeTree} {Os : List Arrow} {D B : TypeTree} →
        StartsEach (row_value keys) g i fs s x as' ys n → AllTyped (RowTyped keys) AnyType Ps Os fs D B → ScopeTyped keys s Ps Os
        → ((j : ℕ) → j < i + members fs → HasType (g j x) D) → StatesTyped keys as' (members fs) D B × HaveType (list_of ys) B
    each_starts_typed G.start_none T.no_members_typed h js = (no_state_typed, end_has)
    each_starts_typed (G.start_also {i = i} kf ks) (T.and_member_typed f fs) h js =
        let one = starts_typed kf f h (js i (omega arith)) in
        let all = each_starts_typed ks fs h (λ j l. js j (omega arith)) in
        (and_state_typed one.0 all.0, more_has one.1 all.1)

    -- what a typed frozen network resumes as
    pub resumes_typed : {f : Frozen ℕ} {x : Datum} {a : State ℕ} {y : Datum} {n : ℕ} {A B : TypeTree} → Resumes (row_value keys) f x a y n
        → FrozenTyped keys f A B → HasType x A → StateTyped keys a A B × HasType y B
    resumes_typed (G.resume_unstarted k) (unstarted_typed f h) j = starts_typed k f h j
    resumes_typed (G.resume_paused k) (paused_typed h) j = steps_typed k h j

    -- the members of an `rpSwitchB`, each on a typed sample
    pub resumes_each_typed : {ms : List (Frozen ℕ)} {x : Datum} {as' : States ℕ} {ys : List Datum} {n : ℕ} {D B : TypeTree} →
        ResumesEach (row_value keys) ms x as' ys n → MemberStatesTyped keys D B ms → HasType x D → StatesTyped keys as' (length ms) D B × HaveType (list_of ys) B
    resumes_each_typed G.resume_none h j = (no_state_typed, end_has)
    resumes_each_typed (G.resume_also kf ks) h j =
        let one = resumes_typed kf h.0 j in
        let all = resumes_each_typed ks h.1 j in
        (and_state_typed one.0 all.0, more_has one.1 all.1)

    -- what steps from a typed state by a typed sample
    pub steps_typed : {a b : State ℕ} {x : ℕ × Datum} {y : Datum} {n : ℕ} {A B : TypeTree} → Steps (row_value keys) a x b y n → StateTyped keys a A B
        → HasType x.1 A → StateTyped keys b A B × HasType y B
    steps_typed G.step_arr (arr_state_typed h r) j = (arr_state_typed h r, row_typed r h j)
    steps_typed (G.step_seq ka kb) (seq_state_typed a b) j =
        let one = steps_typed ka a j in
        let two = steps_typed kb b one.1 in
        (seq_state_typed one.0 two.0, two.1)
    steps_typed (G.step_first ka) (first_state_typed a) j =
        let one = steps_typed ka a (typed_left j) in
        (first_state_typed one.0, pair_has one.1 (typed_right j))
    steps_typed (G.step_par ks) (par_state_typed l as') j =
        let all = each_steps_typed ks as' (λ i b. j) in
        (par_state_typed l all.0, list_has all.1)
    steps_typed (G.step_loop ka) (loop_state_typed v a) j =
        let one = steps_typed ka a (pair_has j v) in
        (loop_state_typed (typed_right one.1) one.0, typed_left one.1)
    steps_typed (G.step_cell {x = x} e) (cell_state_typed {A = A} {B = B} k) j =
        let v = subst (λ (o : Cell × Datum). CellTyped o.0 A B × HasType o.1 B) e (cell_step_typed x k j) in
        (cell_state_typed v.0, v.1)
    steps_typed (G.step_accum {acc' = acc'} {x = x} e) (accum_state_typed {acc = acc} {Z = Z} h g k) j =
        let v : HasType acc' Z = subst (λ w. HasType w Z) (sym e) (typed_fold_events _ acc (x.1 ∷ []) (λ w k'. row_typed g h k') k (and_value j no_value)) in
        (accum_state_typed h g v, typed_if_event x.1 acc' j v)
    steps_typed (G.step_switch ka e) (switch_state_typed a h t) j =
        let one = steps_typed ka a j in
        (switch_state_typed one.0 h t, typed_left one.1)
    steps_typed (G.step_switch_over {tm = tm} ka e kt) (switch_state_typed a h t) j =
        let one = steps_typed ka a j in
        let two = starts_typed kt t (pushed_param h (event_typed (typed_right one.1) e)) j in
        (two.0, heard_typed tm (typed_left one.1) two.1)
    steps_typed (G.step_r_switch e ka) (r_switch_state_typed a h t) j =
        let one = steps_typed ka a (typed_left j) in
        (r_switch_state_typed one.0 h t, one.1)
    steps_typed (G.step_cut_at_once e kt) (r_switch_state_typed a h t) j =
        let cut = cut_typed j e in
        let one = starts_typed kt t (pushed_param h cut.1) cut.0 in
        (r_switch_state_typed one.0 h t, one.1)
    steps_typed (G.step_cut_delayed e ka kt) (r_switch_state_typed a h t) j =
        let cut = cut_typed j e in
        let one = steps_typed ka a cut.0 in
        let two = starts_typed kt t (pushed_param h cut.1) cut.0 in
        (r_switch_state_typed two.0 h t, one.1)
    steps_typed (G.step_k_switch ka kb e) (k_switch_state_typed a b h t) j =
        let one = steps_typed ka a j in
        let two = steps_typed kb b (pair_has j one.1) in
        (k_switch_state_typed one.0 two.0 h t, one.1)
    steps_typed (G.step_k_switch_over ka kb e kt) (k_switch_state_typed a b h t) j =
        let one = steps_typed ka a j in
        let two = steps_typed kb b (pair_has j one.1) in
        starts_typed kt t (pushed_olds (pushed_param h (event_typed two.1 e)) (and_frozen_typed (paused_typed a) no_frozen_typed)) j
    steps_typed (G.step_p_switch ks kb e) (p_switch_state_typed u r as' b h t) j =
        let all = each_steps_typed ks as' (λ i b. route_typed r (params_typed h) j u i (omega arith)) in
        let two = steps_typed kb b (pair_has j (list_has all.1)) in
        (p_switch_state_typed u r all.0 two.0 h t, list_has all.1)
    steps_typed (G.step_p_switch_over {x = x} ks kb e kt) (p_switch_state_typed u r as' b h t) j =
        let all = each_steps_typed ks as' (λ i b. route_typed r (params_typed h) j u i (omega arith)) in
        let two = steps_typed kb b (pair_has j (list_has all.1)) in
        starts_typed kt t (pushed_olds (pushed_param h (event_typed two.1 e)) (paused_all x.0 as')) j
    steps_typed (G.step_rp_switch {r = m} {as' = as'} {t = t} {s = s} {x = x} ks) (rp_switch_state_typed l r hs h k) j =
        let before = frozen_list (all_paused as' x.0) in
        let count = paused_count x.0 hs in
        let all = resumes_each_typed ks (turned_typed before r k h (paused_members x.0 hs) j) (typed_left j) in
        (rp_switch_state_typed (turned_few (row_value keys m (params_of s)) t s before (omega (arith, count, l)) j) r all.0 h k, list_has all.1)

    -- the members from i on that step, each by a typed sample
    pub each_steps_typed : {g : ℕ → Datum → Datum} {i : ℕ} {as' : States ℕ} {x : ℕ × Datum} {bs : States ℕ} {ys : List Datum} {n m : ℕ} {D B : TypeTree} →
        StepsEach (row_value keys) g i as' x bs ys n → StatesTyped keys as' m D B → ((j : ℕ) → j < i + m → HasType (g j x.1) D) → StatesTyped keys bs m D B
        × HaveType (list_of ys) B
    each_steps_typed G.step_none no_state_typed js = (no_state_typed, end_has)
    each_steps_typed (G.step_also {i = i} ka ks) (and_state_typed a as') js =
        let one = steps_typed ka a (js i (omega arith)) in
        let all = each_steps_typed ks as' (λ j l. js j (omega arith)) in
        (and_state_typed one.0 all.0, more_has one.1 all.1)
