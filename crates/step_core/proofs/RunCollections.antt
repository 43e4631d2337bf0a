-- What one sample does to the members of an `rpSwitchB`, and to it.
use Rattle.std.proofs.Common.{◌≡◌, ℕ, suc, ◌+◌, ◌<◌, ◌^◌, List, [], ◌∷◌, ◌++◌, Option, Some, None, refl, sym, ap, ◌∙◌, subst, arith}
use Rattle.sample_core.specs.Datum.{Datum, left, list, list_of}
use Rattle.sample_core.specs.TypeTree.{TypeTree, pair_ty, event_ty, int_ty, list_ty}
use Rattle.sample_core.specs.HasType.{HasType, pair_has, event_has, no_event_has}
use Rattle.leaf_core.specs.KeyTree.{KeyTree}
use Rattle.net_tree.specs.Network.{Network}
use Rattle.net_meaning.specs.Typing as N
use Rattle.net_meaning.specs.Typing.{Arrow, AnyType, Typed}
use Rattle.state_core.specs.State.{State, States, Scope, Frozen, rp_switch_state, no_state, and_state, params_of, all_paused, frozen_list, first_frozen, chosen_frozen, turned}
use Rattle.step_core.specs.Stepping as G
use Rattle.step_core.specs.Stepping.{Resumes, ResumesEach, restart_in}
use Rattle.step_core.specs.RowTyping.{RowTyped}
use Rattle.step_core.specs.StateTyping as T
use Rattle.step_core.specs.StateTyping.{ScopeTyped, row_value}
use Rattle.step_core.specs.Outcome.{Outcome, IsRan}
use Rattle.step_core.specs.Runs as R
use Rattle.step_core.specs.Runs.{Ran, RunsWhere, RpSwitchBy, MemberStatesTyped, AllRan, AllRunWhere}
use Rattle.step_core.specs.Switching.{IsTurned}
use Rattle.step_core.proofs.CalledRows.{called_value}
use Rattle.step_core.proofs.StateTypings.{row_typed, cut_typed, params_typed, first_typed, paused_members, chosen_typed}

-- what runs by the sample, where that is no event
turned_none : (r : Datum → Datum) (t : Network ℕ) (s : Scope ℕ) (ms : List (Frozen ℕ)) {x : Datum} {D C : TypeTree} → HasType x (pair_ty D (event_ty C))
    → restart_in x ≡ None → turned r t s ms x ≡ ms
turned_none r t s ms (pair_has h no_event_has) e = refl
turned_none r t s ms (pair_has h (event_has k)) e = absurd (cc)

-- and where it is one
turned_some : (r : Datum → Datum) (t : Network ℕ) (s : Scope ℕ) (ms : List (Frozen ℕ)) {x u c : Datum} {D C : TypeTree} → HasType x (pair_ty D (event_ty C))
    → restart_in x ≡ Some (u, c) → turned r t s ms x ≡ chosen_frozen t s ms (r c)
turned_some r t s ms (pair_has h no_event_has) e = absurd (cc)
turned_some r t s ms {u = u} {c = c} (pair_has {v = w} h (event_has {v = v} k)) e =
    let same : (w, v) ≡ (u, c) = cc in ap (λ (z : Datum × Datum). chosen_frozen t s ms (r z.1)) same

left_typed : {v : Datum} {A B : TypeTree} → HasType v (pair_ty A B) → HasType (left v) A
left_typed (pair_has a b) = a

module _ (keys : List KeyTree) where
  -- what runs on the sample is typed, and is what the rule says
  record Turned (r : Datum → Datum) (t : Network ℕ) (s : Scope ℕ) (before : List (Frozen ℕ)) (x : Datum) (ms : List (Frozen ℕ)) (D B : TypeTree) : Type 0 where
    typed : MemberStatesTyped keys D B ms
    same : ms ≡ turned r t s before x

  turned_is : (m : ℕ) (t : Network ℕ) (s : Scope ℕ) (before : List (Frozen ℕ)) (x : Datum) (o : Option (Datum × Datum)) (ms : List (Frozen ℕ))
      {Ps : List TypeTree} {Os : List Arrow} {D B C V : TypeTree} → restart_in x ≡ o → IsTurned keys m t s before o ms → HasType x (pair_ty D (event_ty C))
      → RowTyped keys m Ps C (pair_ty (list_ty int_ty) (list_ty V)) → Typed (RowTyped keys) AnyType (Ps ++ V ∷ []) Os t D B → ScopeTyped keys s Ps Os
      → MemberStatesTyped keys D B before → Turned (row_value keys m (params_of s)) t s before x ms D B
  turned_is m t s before x None ms {D = D} {B = B} e h tx tm tt' ts tb = record {
    typed = subst (MemberStatesTyped keys D B) (sym h) tb;
    same = h ∙ sym (turned_none (row_value keys m (params_of s)) t s before tx e);
  }
  turned_is m t s before x (Some (u, c)) ms {D = D} {B = B} {C = C} {V = V} e h tx tm tt' ts tb =
      let tc : HasType c C = (cut_typed tx e).1 in
      let value : h.0 ≡ row_value keys m (params_of s) c = called_value keys m (params_of s) c h.0 h.1 tm (params_typed keys ts) tc in
      let tw : HasType h.0 (pair_ty (list_ty int_ty) (list_ty V)) = subst (λ z. HasType z (pair_ty (list_ty int_ty) (list_ty V))) (sym value)
      (row_typed keys tm (params_typed keys ts) tc) in
      record {
        typed = subst (MemberStatesTyped keys D B) (sym h.2) (chosen_typed keys before h.0 tt' ts tw tb);
        same = h.2 ∙ ap (chosen_frozen t s before) value ∙ sym (turned_some (row_value keys m (params_of s)) t s before tx e);
      }

  -- what all its members led to leads the whole to this, with one visit more
  ended : {w : Frozen ℕ} {x : Datum} {as' : States ℕ} {ys : List Datum} {ms now : List (Frozen ℕ)} {b : State ℕ} (n : ℕ) (o : Outcome)
      → AllRan keys (left x) ms as' ys n → ms ≡ now
      → ((k : ℕ) → ResumesEach (row_value keys) now (left x) as' ys k → Resumes (row_value keys) w x b (list (list_of ys)) (suc k))
      → IsRan o b (list (list_of ys)) (suc (n + 0)) → Ran keys w x o.state o.answer o.visits
  ended {w = w} {x = x} {as' = as'} {ys = ys} {b = b} n o all e go r =
      let there : Resumes (row_value keys) w x b (list (list_of ys)) (suc all.visits) =
      go all.visits (subst (λ ms. ResumesEach (row_value keys) ms (left x) as' ys all.visits) e all.runs) in
      record {
        visits = suc all.visits;
        resumes = subst (λ c. Resumes (row_value keys) w x c o.answer (suc all.visits)) (sym r.0)
            (subst (λ v. Resumes (row_value keys) w x b v (suc all.visits)) (sym r.1) there);
        is_count = λ l.
            let i : n ≡ all.visits = all.is_count (omega (arith, l)) in
            let j : o.visits ≡ suc (n + 0) = r.2 (omega (arith, i, l)) in
            omega (arith, i, j);
      }

  -- `rpSwitchB`
  pub rp_switch_runs : (w : Frozen ℕ) (m : ℕ) (before : List (Frozen ℕ)) (t : Network ℕ) (s : Scope ℕ) (x : Datum) (ms : List (Frozen ℕ)) (as' : States ℕ)
      (ys : List Datum) (n : ℕ) (o : Outcome) → RpSwitchBy w m before t s → IsTurned keys m t s before (restart_in x) ms
      → AllRunWhere keys (left x) ms as' ys n → IsRan o (rp_switch_state m as' t s) (list (list_of ys)) (suc (n + 0))
      → RunsWhere keys w x o.state o.answer o.visits
  rp_switch_runs w m before t s x ms as' ys n o (R.rp_switch_new {fs = fs}) ht hs hr A B
      (T.unstarted_typed (N.rp_switch_typed {D = D} {B = B'} lo hi tfs tm tt' _) ts) tx =
      let tb : MemberStatesTyped keys D B' (first_frozen fs s) = first_typed keys tfs ts in
      let now = turned_is m t s before x (restart_in x) ms refl ht tx tm tt' ts tb in
      ended n o (hs D B' now.typed (left_typed tx)) now.same (λ k i. G.resume_unstarted (G.start_rp_switch i)) hr
  rp_switch_runs w m before t s x ms as' ys n o (R.rp_switch_on {as' = bs} {d = d}) ht hs hr A B
      (T.paused_typed (T.rp_switch_state_typed {D = D} {B = B'} hi tm tas ts tt')) tx =
      let tb : MemberStatesTyped keys D B' (frozen_list (all_paused bs d)) = paused_members keys d tas in
      let now = turned_is m t s before x (restart_in x) ms refl ht tx tm tt' ts tb in
      ended n o (hs D B' now.typed (left_typed tx)) now.same (λ k i. G.resume_paused (G.step_rp_switch i)) hr

  -- no member
  pub no_member_runs : (x : Datum) → AllRunWhere keys x [] no_state [] 0
  no_member_runs x D B tms t = record { visits = 0; runs = G.resume_none; is_count = λ _. refl }

  -- a member's run and those of the members after it
  pub also_member_runs : (f : Frozen ℕ) (ms : List (Frozen ℕ)) (x y : Datum) (a : State ℕ) (as' : States ℕ) (ys : List Datum) (m n c : ℕ)
      → RunsWhere keys f x a y m → AllRunWhere keys x ms as' ys n → (m + n < 2 ^ 32 → c ≡ m + n)
      → AllRunWhere keys x (f ∷ ms) (and_state a as') (y ∷ ys) c
  also_member_runs f ms x y a as' ys m n c one rest hc D B tms t =
      let here : Ran keys f x a y m = one D B tms.0 t in
      let others : AllRan keys x ms as' ys n = rest D B tms.1 t in
      record {
        visits = here.visits + others.visits;
        runs = G.resume_also here.resumes others.runs;
        is_count = λ l.
            let e : m ≡ here.visits = here.is_count (omega (arith, l)) in
            let g : n ≡ others.visits = others.is_count (omega (arith, l)) in
            let h : c ≡ m + n = hc (omega (arith, l, e, g)) in
            omega (arith, e, g, h);
      }
