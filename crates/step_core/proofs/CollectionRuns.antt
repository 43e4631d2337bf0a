-- What a sample does to an `rpSwitchB`, and to a `-->` and a `>--` that start, at a place of their own.
use Rattle.std.proofs.Common.{◌≡◌, ℕ, suc, drop, get_or, ◌+◌, ◌<◌, ◌≤◌, ◌^◌, List, [], ◌∷◌, ◌++◌, Option, Some, None, length, map, refl, sym, ap, ◌∙◌, subst, arith, append_assoc, append-nil}
use Rattle.std.proofs.Math.Seq.{drop-cons}
use Rattle.std.proofs.lemmas.List.{drop_all}
use Rattle.sample_core.specs.Datum.{Datum, unit, left, list, list_of}
use Rattle.leaf_core.specs.KeyTree.{KeyTree}
use Rattle.net_tree.specs.Network.{Network, Networks, initial_out, initial_in, rp_switch}
use Rattle.state_core.specs.State.{State, Scope, Frozen, rp_switch_state, params_of}
use Rattle.state_core.specs.Tree.{Kept, joined, nothing, one_place, all_states, running}
use Rattle.step_core.specs.Called.{Called}
use Rattle.step_core.specs.Flow.{Past, standing, members_before, MembersRun, Runs}
use Rattle.step_core.specs.Outcome.{outcome}
use Rattle.step_core.specs.Rank.{frozen_rank}
use Rattle.step_core.specs.Runs as R
use Rattle.step_core.specs.Runs.{RunsWhere, RpSwitchBy}
use Rattle.step_core.specs.Stepping.{restart_in}
use Rattle.step_core.specs.Switching.{IsChosen, IsTurned, TurnedRun}
use Rattle.step_core.proofs.Kepts.{joined_assoc, joined_nothing}
use Rattle.step_core.proofs.MembersFall.{load, turned_falls}
use Rattle.step_core.proofs.RestartCounts.{cut_is}
use Rattle.step_core.proofs.RunCollections.{rp_switch_runs, no_member_runs, also_member_runs}
use Rattle.step_core.proofs.RunForms.{initial_out_runs, initial_in_runs}

-- the members of what runs
rp_switch_by : (fs : Networks ℕ) (m : ℕ) (t : Network ℕ) (s : Scope ℕ) (p : Past)
    → RpSwitchBy (standing (rp_switch fs m t) s p) m (members_before fs s p) t s
rp_switch_by fs m t s None = R.rp_switch_new
rp_switch_by fs m t s (Some k) = R.rp_switch_on

-- those that run on a sample are less than it
pub members_fall : (keys : List KeyTree) (fs : Networks ℕ) (m : ℕ) (t : Network ℕ) (s : Scope ℕ) (p : Past) (o : Option (Datum × Datum)) (ms : List (Frozen ℕ))
    → IsTurned keys m t s (members_before fs s p) o ms → load ms < frozen_rank (standing (rp_switch fs m t) s p)
members_fall keys fs m t s p o ms h = turned_falls keys _ m _ t s o ms (rp_switch_by fs m t s p) h

-- the sample of an event
left_cut : (x u c : Datum) → restart_in x ≡ Some (u, c) → u ≡ left x
left_cut x u c e = sym (ap left (cut_is x u c e))

module _ (keys : List KeyTree) where
  -- members that ran were those that run on the sample: at an event, and at none
  pub turned_event : (fs : Networks ℕ) (m : ℕ) (t : Network ℕ) (s : Scope ℕ) (p : Past) (x u c : Datum) (ms : List (Frozen ℕ)) (before now : Kept ℕ)
      (ys : List Datum) (n : ℕ) → restart_in x ≡ Some (u, c) → IsChosen keys m t s (members_before fs s p) c ms
      → MembersRun keys ms u before now [] ys n → TurnedRun keys fs m t s p x before now ys n
  turned_event fs m t s p x u c ms before now ys n e h all = (
    ms,
    subst (λ o. IsTurned keys m t s (members_before fs s p) o ms) (sym e) h,
    subst (λ z. MembersRun keys ms z before now [] ys n) (left_cut x u c e) all,
  )

  pub turned_none : (fs : Networks ℕ) (m : ℕ) (t : Network ℕ) (s : Scope ℕ) (p : Past) (x l : Datum) (ms : List (Frozen ℕ)) (before now : Kept ℕ)
      (ys : List Datum) (n : ℕ) → restart_in x ≡ None → l ≡ left x → ms ≡ members_before fs s p
      → MembersRun keys ms l before now [] ys n → TurnedRun keys fs m t s p x before now ys n
  turned_none fs m t s p x l ms before now ys n e el h all = (
    ms,
    subst (λ o. IsTurned keys m t s (members_before fs s p) o ms) (sym e) h,
    subst (λ z. MembersRun keys ms z before now [] ys n) el all,
  )

  -- `rpSwitchB`
  pub collection_runs : (fs : Networks ℕ) (m : ℕ) (t : Network ℕ) (s : Scope ℕ) (p : Past) (x y : Datum) (net : Network ℕ) (s0 : Scope ℕ)
      (before now last : Kept ℕ) (ys : List Datum) (n c : ℕ) → (net ≡ rp_switch fs m t) × (s0 ≡ s) × (before ≡ nothing) → last ≡ now
      → TurnedRun keys fs m t s p x before now ys n → y ≡ list (list_of ys) → (suc (n + 0) < 2 ^ 32 → c ≡ suc (n + 0))
      → RunsWhere keys (standing (rp_switch fs m t) s p) x (running net s0 last) y c
  collection_runs fs m t s p x y net s0 before now last ys n c b e (ms, ht, all) ey hc =
      let state : running net s0 last ≡ rp_switch_state m (all_states all.states) t s =
      ap (λ z. running z s0 last) b.0 ∙ ap (λ z. running (rp_switch fs m t) z last) b.1
      ∙ ap (running (rp_switch fs m t) s) (e ∙ all.added ∙ ap (λ k. joined k ([], all.states)) b.2) in
      let out : y ≡ list (list_of all.answers) = ey ∙ ap (λ vs. list (list_of vs)) all.answered in
      rp_switch_runs keys (standing (rp_switch fs m t) s p) m (members_before fs s p) t s x ms (all_states all.states) all.answers n
      (outcome (running net s0 last) y c) (rp_switch_by fs m t s p) ht all.runs (state, out, hc)

  -- members to come lead to so much, and all to this
  pub no_member_run : (ms : List (Frozen ℕ)) (x : Datum) (before : Kept ℕ) (ys zs : List Datum) → ms ≡ [] → zs ≡ ys → MembersRun keys ms x before before ys zs 0
  no_member_run ms x before ys zs e same = subst (λ ns. MembersRun keys ns x before before ys zs 0) (sym e) (record {
    states = [];
    answers = [];
    added = joined_nothing before;
    answered = same ∙ sym (append-nil ys);
    runs = no_member_runs keys x;
  })

  also_member_run : (all : List (Frozen ℕ)) (f : Frozen ℕ) (ms : List (Frozen ℕ)) (x y : Datum) (before mid now : Kept ℕ) (xs ys zs : List Datum) (m n c : ℕ)
      → all ≡ f ∷ ms → Runs keys f x before mid y m → ys ≡ xs ++ y ∷ [] → MembersRun keys ms x mid now ys zs n → (m + n < 2 ^ 32 → c ≡ m + n)
      → MembersRun keys all x before now xs zs c
  also_member_run all f ms x y before mid now xs ys zs m n c e one ey rest hc = subst (λ ns. MembersRun keys ns x before now xs zs c) (sym e) (record {
    states = one.state ∷ rest.states;
    answers = y ∷ rest.answers;
    added = rest.added ∙ ap (λ k. joined k ([], rest.states)) one.added ∙ joined_assoc before (one_place one.state) ([], rest.states);
    answered = rest.answered ∙ ap (λ vs. vs ++ rest.answers) ey ∙ append_assoc xs (y ∷ []) rest.answers;
    runs = also_member_runs keys f ms x y one.state (all_states rest.states) rest.answers m n c one.runs rest.runs hc;
  })

  -- what the members to come lead to, all lead to, after so many visits
  abbrev pub MembersGo : List (Frozen ℕ) → List (Frozen ℕ) → Datum → Kept ℕ → Kept ℕ → List Datum → ℕ → Type 0
  MembersGo all rest x before mid ys m = (now : Kept ℕ) (zs : List Datum) (n c : ℕ) → MembersRun keys rest x mid now ys zs n
      → (m + n < 2 ^ 32 → c ≡ m + n) → MembersRun keys all x before now [] zs c

  pub members_begin : (all : List (Frozen ℕ)) (x : Datum) (before : Kept ℕ) (ys : List Datum) → ys ≡ [] → MembersGo all all x before before ys 0
  members_begin all x before ys ey now zs n c f e =
      let g : MembersRun keys all x before now [] zs n = subst (λ vs. MembersRun keys all x before now vs zs n) ey f in
      record {
        states = g.states;
        answers = g.answers;
        added = g.added;
        answered = g.answered;
        runs = λ D B tms t.
            let w = g.runs D B tms t in
            record {
              visits = w.visits;
              runs = w.runs;
              is_count = λ b. let h : n ≡ w.visits = w.is_count b in e (omega (arith, h, b)) ∙ omega (arith, h);
            };
      }

  -- one member more, by an equation
  pub members_go : (all rest : List (Frozen ℕ)) (f : Frozen ℕ) (ms : List (Frozen ℕ)) (x y : Datum) (before mid last : Kept ℕ) (ys vs : List Datum) (m k j : ℕ)
      → rest ≡ f ∷ ms → MembersGo all rest x before mid ys m → Runs keys f x mid last y k → vs ≡ ys ++ y ∷ [] → (m + k < 2 ^ 32 → j ≡ m + k)
      → MembersGo all ms x before last vs j
  members_go all rest f ms x y before mid last ys vs m k j e go one ey ej now zs n c others hc =
      go now zs (k + n) c (also_member_run rest f ms x y mid last now ys vs zs k n (k + n) e one ey others (λ _. refl))
      (λ l. let a : j ≡ m + k = ej (omega (arith, l)) in let b : c ≡ j + n = hc (omega (arith, l, a)) in omega (arith, a, b))

  -- the member at i is the first of those to come
  pub member_goes : {A : Type 0} (g : A → Frozen ℕ) (all : List A) (i j : ℕ) (item : A) (x y : Datum) (before mid last : Kept ℕ) (ys vs : List Datum)
      (m k n : ℕ) → i < length all → item ≡ get_or all i item → j ≡ i + 1 → MembersGo (map g all) (map g (drop i all)) x before mid ys m
      → Runs keys (g item) x mid last y k → vs ≡ ys ++ y ∷ [] → (m + k < 2 ^ 32 → n ≡ m + k)
      → MembersGo (map g all) (map g (drop j all)) x before last vs n
  member_goes g all i j item x y before mid last ys vs m k n l at e go one ey en =
      let next : suc i ≡ j = omega (arith, e) in
      let first : drop i all ≡ item ∷ drop j all = drop-cons all i item l ∙ (λ z. sym at z ∷ drop (next z) all) in
      members_go (map g all) (map g (drop i all)) (g item) (map g (drop j all)) x y before mid last ys vs m k n (ap (map g) first) go one ey en

  -- none is to come
  pub members_end : {A : Type 0} (g : A → Frozen ℕ) (all : List A) (i : ℕ) (x : Datum) (before now : Kept ℕ) (ys zs : List Datum) (m : ℕ) → length all ≤ i
      → MembersGo (map g all) (map g (drop i all)) x before now ys m → zs ≡ ys → MembersRun keys (map g all) x before now [] zs m
  members_end g all i x before now ys zs m l go e =
      go now zs 0 m (no_member_run (map g (drop i all)) x now ys zs (ap (map g) (drop_all i all l)) e) (λ _. omega arith)

  -- `-->` and `>--` that start
  pub initial_out_begins : (c : ℕ) (f : Network ℕ) (s : Scope ℕ) (p : Past) (x v y : Datum) (a : State ℕ) (m n : ℕ) → p ≡ None
      → RunsWhere keys (standing f s p) x a v m → Called keys c (params_of s) unit y → (suc (m + 0) < 2 ^ 32 → n ≡ suc (m + 0))
      → RunsWhere keys (standing (initial_out c f) s p) x a y n
  initial_out_begins c f s p x v y a m n e one h hc = subst (λ q. RunsWhere keys (standing (initial_out c f) s q) x a y n) (sym e)
      (initial_out_runs keys c f s x v y a m n (subst (λ q. RunsWhere keys (standing f s q) x a v m) e one) h hc)

  pub initial_in_begins : (c : ℕ) (f : Network ℕ) (s : Scope ℕ) (p : Past) (x u y : Datum) (a : State ℕ) (m n : ℕ) → p ≡ None
      → RunsWhere keys (standing f s p) u a y m → Called keys c (params_of s) unit u → (suc (m + 0) < 2 ^ 32 → n ≡ suc (m + 0))
      → RunsWhere keys (standing (initial_in c f) s p) x a y n
  initial_in_begins c f s p x u y a m n e one h hc = subst (λ q. RunsWhere keys (standing (initial_in c f) s q) x a y n) (sym e)
      (initial_in_runs keys c f s x u y a m n (subst (λ q. RunsWhere keys (standing f s q) u a y m) e one) h hc)
