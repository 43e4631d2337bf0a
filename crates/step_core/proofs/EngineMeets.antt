-- What starts stands for the network's meaning, and what steps goes on standing for it.
use Rattle.std.proofs.Common.{◌≡◌, ℕ, suc, ◌+◌, List, [], ◌∷◌, map, refl, sym, ap, ap₂, subst, None}
use Rattle.sample_core.specs.Datum.{Datum, unit, left, right, pair, list, list_of, no_event}
use Rattle.net_meaning.specs.SignalFunction.{TimedList, SignalFunction, last_or, each_value, first_event, rights, watch, collect, i_pre_value, latest_event, values, if_event, Member, first_members, IsSignalFunction, heard}
use Rattle.net_tree.specs.Network.{Network, Networks, arr, loop_pre, i_pre, delay, hold, accum_by, after, repeatedly, at_once, delayed, switch, r_switch, initial_out, initial_in, rp_switch, p_switch}
use Rattle.state_core.specs.Visits.{first_and_one}
use Rattle.std.proofs.lemmas.List.{map_push}
use Rattle.state_core.specs.CountedFunction.{CountedFunction, IsCountedFunction, StandsVia, TakesSample}
use Rattle.state_core.specs.CountedForms.{functions_of, counted_cell, same_input, route_by, counted_rp_switch, counted_k_switch, counted_p_switch, counted_resume, counted_resume_each}
use Rattle.state_core.specs.CountedContext.{CountedContext, context_with_param, context_with_olds, counted_meaning, counted_meanings}
use Rattle.cell_core.specs.Cell.{previous, queue, latest, recurring}
use Rattle.state_core.specs.State.{State, States, Scope, Frozen, scope, no_frozen, and_frozen, unstarted, paused, params_of, frozens_of, push_param, all_unstarted, all_paused, arr_state, par_state, loop_state, cell_state, accum_state, k_switch_state, p_switch_state, rp_switch_state, first_frozen}
use Rattle.state_core.specs.StandsByForm.{CellStands}
use Rattle.state_core.specs.Stands.{StandsDirectly, StandDirectly, StandEach, Denotes, AllDenote, FrozenDenotes, Stands}
use Rattle.step_core.specs.Stepping
use Rattle.step_core.specs.Stepping.{Starts, StartsEach, Resumes, ResumesEach, Steps, StepsEach}
use Rattle.net_meaning.proofs.Steps.{signal-nil}
use Rattle.step_core.proofs.CountedFunctions.{Took-continues, Took-equal}
use Rattle.step_core.proofs.PlainCounts.{arr_took, seq_took, first_took, loop_took}
use Rattle.step_core.proofs.CellCounts.{cell_starts, cell_took, accum_took, delay_starts, after_starts, repeatedly_starts, time_starts, integral_starts}
use Rattle.step_core.proofs.SwitchCounts.{switch_took, switch_over_took, k_switch_took, k_switch_over_took}
use Rattle.step_core.proofs.RestartCounts.{r_switch_took, cut_at_once_took, cut_delayed_took, cut_is, Uncut-nil}
use Rattle.step_core.proofs.MemberCounts.{AllCounted, no_counted, and_counted, AllCounted-append, AllCounted-resume, IsCounted-resume, EachTook, par_took, p_switch_took, p_switch_over_took}
use Rattle.step_core.proofs.OpeningCounts.{initial_out_took, initial_in_took}
use Rattle.step_core.proofs.CollectionCounts.{AllTook}
use Rattle.step_core.proofs.CollectionStands.{AllPaired, no_pair, and_pair, GoesAs, goes-counted, first-go, first-counted, collection_took, collection_moves}
use Rattle.step_core.proofs.OldCounts.{old_counted, resume_took}
use Rattle.step_core.proofs.CountedContexts.{IsCounted-counted, AllCounted-counted_each, Denotes-counted_each, Denotes-push_param, Denotes-push_olds, AllDenote-unstarted, AllDenote-paused, StandDirectly-counted_each, Found, found, counted-par, counted-rp_switch, counted-k_switch, counted-p_switch}

pub Took-weaker : {P Q : CountedFunction → TimedList → Type 0} (c : CountedFunction) (p : TimedList) (x : ℕ × Datum) (y : Datum) (n : ℕ)
    → ((d : CountedFunction) (q : TimedList) → P d q → Q d q) → TakesSample (StandsVia P) c p x y n → TakesSample (StandsVia Q) c p x y n
Took-weaker c p x y n k t = record {
  stands = record { other = t.stands.other; past = t.stands.past; holds = k t.stands.other t.stands.past t.stands.holds; goes_on = t.stands.goes_on };
  answered = t.answered;
  counted = t.counted;
}

-- nothing was seen: no event
unseen-rights : (f : SignalFunction) → IsSignalFunction f → first_event (rights f []) ≡ None
unseen-rights f sf = ap (λ vs. first_event (map right vs)) (signal-nil f sf)

unseen-watching : (f e : SignalFunction) → IsSignalFunction e → first_event (watch f e []) ≡ None
unseen-watching f e se = ap first_event (signal-nil e se)

module _ {L : Type 0} (val : L → List Datum → Datum → Datum) where
  -- the context with the scope's own parameters
  abbrev own : Scope L → CountedContext → CountedContext
  own s S = record { params = params_of s; olds = S.olds }

  Denotes-own : (s : Scope L) (S : CountedContext) → Denotes val s S → Denotes val s (own s S)
  Denotes-own (scope ps fs) S h = (refl, h.1)

  by_own : (net : Network L) (s : Scope L) (S : CountedContext) (a : State L) (z : ℕ × Datum) (y : Datum) (n : ℕ) → Denotes val s S
      → TakesSample (Stands val a) (counted_meaning val net (own s S)) [] z y n → TakesSample (Stands val a) (counted_meaning val net S) [] z y n
  by_own net (scope ps fs) S a z y n h t =
      let F : List Datum
      → Type 0 = λ vs. let S' : CountedContext = record { params = vs; olds = S.olds } in
      TakesSample (Stands val a) (counted_meaning val net S') [] z y n in
      subst F h.0 t

  -- the part of a switch in such a scope, which has seen no event at the start
  part_of : (f : Network L) (s : Scope L) (S : CountedContext) → Denotes val s S → IsCountedFunction (counted_meaning val f S)
  part_of f s S h = IsCounted-counted val f S (Denotes-counted_each val s S h)

  unseen_in : (f : Network L) (s : Scope L) (S : CountedContext) → Denotes val s S → first_event (rights (counted_meaning val f S).function []) ≡ None
  unseen_in f s S h = unseen-rights (counted_meaning val f S).function (part_of f s S h).is_signal_function

  FrozenDenotes-all : (s : Scope L) (S : CountedContext) → Denotes val s S → AllDenote val (frozens_of s) S.olds
  FrozenDenotes-all (scope ps fs) S h = h.1

  -- what takes over, with the event's value in scope, and frozen networks
  abbrev over : Network L → CountedContext → Datum → CountedFunction
  over t S v = counted_meaning val t (context_with_param S v)

  abbrev over_olds : Network L → CountedContext → Datum → List CountedFunction → CountedFunction
  over_olds t S v os = counted_meaning val t (context_with_olds (context_with_param S v) os)

  counted-over : (t : Network L) (S : CountedContext) → AllCounted S.olds → (v : Datum) → IsCountedFunction (over t S v)
  counted-over t S a v = IsCounted-counted val t (context_with_param S v) a

  counted-olds : (t : Network L) (S : CountedContext) → AllCounted S.olds → (v : Datum) (os : List CountedFunction) → AllCounted os
      → IsCountedFunction (over_olds t S v os)
  counted-olds t S a v os b = IsCounted-counted val t (context_with_olds (context_with_param S v) os) (AllCounted-append S.olds os a b)

  mutual
    pub starts : {net : Network L} {s : Scope L} {x : Datum} {a : State L} {y : Datum} {n : ℕ} → Starts val net s x a y n → (S : CountedContext) (d : ℕ)
        → Denotes val s S → TakesSample (Stands val a) (counted_meaning val net S) [] (d, x) y n
    starts (Stepping.start_arr {e = e} {s = s} {x = x}) S d h =
        by_own (arr e) s S (arr_state e (params_of s)) (d, x) (val e (params_of s) x) 1 h (arr_took (val e (params_of s)) [] (d, x))
    starts (Stepping.start_seq {f = f} {g = g} {s = s} {x = x} {v = v} {y = y} {m = m} {n = n} kf kg) S d h =
        let all : AllCounted S.olds = Denotes-counted_each val s S h in
        seq_took (counted_meaning val f S) (counted_meaning val g S) [] (d, x) v y m n (IsCounted-counted val f S all) (IsCounted-counted val g S all)
        (starts kf S d h) (starts kg S d h)
    starts (Stepping.start_first {f = f} {s = s} {x = x} {v = v} {n = n} kf) S d h =
        first_took (counted_meaning val f S) [] (d, x) v n (IsCounted-counted val f S (Denotes-counted_each val s S h)) (starts kf S d h)
    starts (Stepping.start_par {fs = fs} {s = s} {x = x} {as' = as'} {ys = ys} {n = n} ks) S d h =
        subst (λ c. TakesSample (Stands val (par_state as')) c [] (d, x) (list (list_of ys)) (suc n)) (sym (counted-par val fs S))
        (par_took (counted_meanings val fs S) [] (d, x) ys n (AllCounted-counted_each val fs S (Denotes-counted_each val s S h)) (starts_each ks S d h))
    starts (Stepping.start_loop {c = c} {f = f} {s = s} {x = x} {a = a} {v = v} {n = n} kf) S d h =
        let own_S : CountedContext = own s S in
        let u : Datum = val c (params_of s) unit in
        let cf : IsCountedFunction (counted_meaning val f own_S) = IsCounted-counted val f own_S (Denotes-counted_each val s S h) in
        by_own (loop_pre c f) s S (loop_state (right v) a) (d, x) (left v) (suc n) h
        (loop_took u (counted_meaning val f own_S) [] (d, x) u v n cf
        (sym (ap (λ vs. last_or u (map right vs)) (signal-nil (counted_meaning val f own_S).function cf.is_signal_function)))
        (starts kf own_S d (Denotes-own s S h)))
    starts (Stepping.start_i_pre {c = c} {s = s} {x = x}) S d h =
        let u : Datum = val c (params_of s) unit in
        by_own (i_pre c) s S (cell_state (previous x)) (d, x) u 1 h (cell_starts (previous x) (i_pre_value u) (d, x) u (u, refl, refl) refl)
    starts (Stepping.start_delay {q = q} {c = c} {s = s} {x = x}) S d h =
        let u : Datum = val c (params_of s) unit in
        by_own (delay (suc q) c) s S (cell_state (queue (suc q) u ((suc q, x) ∷ []))) (d, x) u 1 h (delay_starts q u (d, x))
    starts (Stepping.start_hold {c = c} {s = s} {x = x}) S d h =
        let u : Datum = val c (params_of s) unit in
        by_own (hold c) s S (cell_state (latest (latest_event u (x ∷ [])))) (d, x) (latest_event u (x ∷ [])) 1 h
        (cell_starts (latest (latest_event u (x ∷ []))) (λ p. latest_event u (values p)) (d, x) (latest_event u (x ∷ [])) (u, refl, refl) refl)
    starts (Stepping.start_accum {g = g} {z = z} {s = s} {x = x} {acc = acc} e) S d h =
        let u : Datum = val z (params_of s) unit in
        by_own (accum_by g z) s S (accum_state g (params_of s) acc) (d, x) (if_event x acc) 1 h (accum_took (val g (params_of s)) u [] (d, x) u acc refl e)
    starts (Stepping.start_after {q = q} {c = c} {s = s} {x = x} {k = k} {y = y} e) S d h =
        by_own (after q c) s S (cell_state k) (d, x) y 1 h (after_starts q (val c (params_of s) unit) k y (d, x) e)
    starts (Stepping.start_repeatedly {q = q} {c = c} {s = s} {x = x}) S d h =
        let u : Datum = val c (params_of s) unit in
        by_own (repeatedly (suc q) c) s S (cell_state (recurring (suc q) (suc q) u)) (d, x) no_event 1 h (repeatedly_starts q u (d, x))
    starts (Stepping.start_time {s = s} {x = x}) S d h = time_starts (d, x)
    starts (Stepping.start_integral {s = s} {x = x}) S d h = integral_starts (d, x)
    starts (Stepping.start_switch {tm = tm} {f = f} {t = t} {s = s} {x = x} {v = v} {n = n} kf e) S d h =
        Took-weaker (counted_meaning val (switch tm f t) S) [] (d, x) (left v) (suc n) (λ c q sh. (S, h, sh))
        (switch_took tm (counted_meaning val f S) (over t S) (part_of f s S h) [] (d, x)
        (unseen_in f s S h) v n (starts kf S d h) e)
    starts (Stepping.fire_switch {tm = tm} {f = f} {t = t} {s = s} {x = x} {b = b} {v = v} {c = c} {y = y} {m = m} {n = n} kf e kt) S d h =
        switch_over_took tm (counted_meaning val f S) (over t S) (part_of f s S h) [] (d, x)
        (unseen_in f s S h) {P = StandsDirectly val b} v c y m n (counted-over t S (Denotes-counted_each val s S h) c)
        (starts kf S d h) e (starts kt (context_with_param S c) d (Denotes-push_param val s S c h))
    starts (Stepping.start_r_switch {tm = tm} {f = f} {t = t} {s = s} {x = x} {y = y} {n = n} e kf) S d h =
        Took-weaker (counted_meaning val (r_switch tm f t) S) [] (d, x) y (suc n) (λ c q sh. (S, h, sh))
        (r_switch_took tm (over t S) (counted-over t S (Denotes-counted_each val s S h)) (counted_meaning val f S)
        (part_of f s S h) [] (d, x) Uncut-nil y n e (starts kf S d h))
    starts (Stepping.cut_at_once {f = f} {t = t} {s = s} {x = x} {u = u} {c = c} {y = y} {n = n} e kt) S d h =
        Took-weaker (counted_meaning val (r_switch at_once f t) S) [] (d, x) y (suc n) (λ c q sh. (S, h, sh))
        (cut_at_once_took (over t S) (counted-over t S (Denotes-counted_each val s S h)) (counted_meaning val f S)
        (part_of f s S h) [] (d, x) Uncut-nil u c (cut_is x u c e) y n (starts kt (context_with_param S c) d (Denotes-push_param val s S c h)))
    starts (Stepping.cut_delayed {f = f} {t = t} {s = s} {x = x} {a = a} {u = u} {c = c} {v = v} {y = y} {m = m} {n = n} e kf kt) S d h =
        Took-weaker (counted_meaning val (r_switch delayed f t) S) [] (d, x) v (suc (m + n)) (λ c q sh. (S, h, sh))
        (cut_delayed_took (over t S) (counted-over t S (Denotes-counted_each val s S h)) (counted_meaning val f S)
        (part_of f s S h) [] (d, x) Uncut-nil u c (cut_is x u c e) {A = Stands val a} v y m n (starts kf S d h)
        (starts kt (context_with_param S c) d (Denotes-push_param val s S c h)))
    starts (Stepping.start_k_switch {f = f} {e = e} {t = t} {s = s} {x = x} {a = a} {b = b} {v = v} {w = w} {m = m} {n = n} kf ke i) S d h =
        let all : AllCounted S.olds = Denotes-counted_each val s S h in
        let cf : IsCountedFunction (counted_meaning val f S) = IsCounted-counted val f S all in
        let ce : IsCountedFunction (counted_meaning val e S) = IsCounted-counted val e S all in
        let tc : Datum → CountedFunction → CountedFunction = λ v o. over_olds t S v (o ∷ []) in
        subst (λ c. TakesSample (Stands val (k_switch_state a b t s)) c [] (d, x) v (suc (m + n))) (sym (counted-k_switch val f e t S))
        (Took-weaker (counted_k_switch (counted_meaning val f S) (counted_meaning val e S) tc) [] (d, x) v (suc (m + n)) (λ c q sh. (S, h, sh))
        (k_switch_took (counted_meaning val f S) (counted_meaning val e S) cf ce tc [] (d, x)
        (unseen-watching (counted_meaning val f S).function (counted_meaning val e S).function ce.is_signal_function) v w m n (starts kf S d h)
        (starts ke S d h) i))
    starts
        (Stepping.fire_k_switch {f = f} {e = e} {t = t} {s = s} {x = x} {a = a} {b = b} {o = o} {v = v} {w = w} {c = c} {y = y} {m = m} {n = n} {k = k} kf ke i
        kt) S d h =
        let all : AllCounted S.olds = Denotes-counted_each val s S h in
        let cf : IsCountedFunction (counted_meaning val f S) = IsCounted-counted val f S all in
        let ce : IsCountedFunction (counted_meaning val e S) = IsCounted-counted val e S all in
        let tc : Datum → CountedFunction → CountedFunction = λ v o. over_olds t S v (o ∷ []) in
        let r : CountedFunction = counted_resume (counted_meaning val f S) [] d in
        let cr : IsCountedFunction r = IsCounted-resume (counted_meaning val f S) cf [] d in
        subst (λ g. TakesSample (Stands val o) g [] (d, x) y (suc (m + n) + k)) (sym (counted-k_switch val f e t S))
        (k_switch_over_took (counted_meaning val f S) (counted_meaning val e S) cf ce tc [] (d, x)
        (unseen-watching (counted_meaning val f S).function (counted_meaning val e S).function ce.is_signal_function) {P = StandsDirectly val o} v w c y m n
        k
        (counted-olds t S all c (r ∷ []) (and_counted cr no_counted)) (starts kf S d h) (starts ke S d h) i
        (starts kt (context_with_olds (context_with_param S c) (r ∷ [])) d
        (Denotes-push_olds val (push_param s c) (context_with_param S c) (and_frozen (unstarted f s) no_frozen) (r ∷ []) (Denotes-push_param val s S c h)
        (cr, (S, d, h, refl), tt))))
    starts (Stepping.start_p_switch {r = r} {fs = fs} {e = e} {t = t} {s = s} {x = x} {as' = as'} {b = b} {vs = vs} {w = w} {m = m} {n = n} ks ke i) S d h =
        let all : AllCounted S.olds = Denotes-counted_each val s S h in
        let own_S : CountedContext = own s S in
        let own_h : Denotes val s own_S = Denotes-own s S h in
        let rv : Datum → Datum = val r (params_of s) in
        let cs : List CountedFunction = counted_meanings val fs own_S in
        let ce : IsCountedFunction (counted_meaning val e own_S) = IsCounted-counted val e own_S all in
        let tc : Datum → List CountedFunction → CountedFunction = over_olds t own_S in
        by_own (p_switch r fs e t) s S (p_switch_state r as' b t s) (d, x) (list (list_of vs)) (suc (m + n)) h
        (subst (λ c. TakesSample (Stands val (p_switch_state r as' b t s)) c [] (d, x) (list (list_of vs)) (suc (m + n)))
        (sym (counted-p_switch val r fs e t own_S))
        (Took-weaker (counted_p_switch rv cs (counted_meaning val e own_S) tc) [] (d, x) (list (list_of vs)) (suc (m + n)) (λ c q sh. (own_S, own_h, sh))
        (p_switch_took rv cs (counted_meaning val e own_S) (AllCounted-counted_each val fs own_S all) ce tc [] (d, x)
        (unseen-watching (collect rv (functions_of cs)) (counted_meaning val e own_S).function ce.is_signal_function) vs w m n
        (starts_each ks own_S d own_h) (starts ke own_S d own_h) i)))
    starts
        (Stepping.fire_p_switch {r = r} {fs = fs} {e = e} {t = t} {s = s} {x = x} {as' = as'} {b = b} {o = o} {vs = vs} {w = w} {c = c} {y = y} {m = m} {n = n}
        {k = k} ks ke i kt) S d h =
        let all : AllCounted S.olds = Denotes-counted_each val s S h in
        let own_S : CountedContext = own s S in
        let own_h : Denotes val s own_S = Denotes-own s S h in
        let rv : Datum → Datum = val r (params_of s) in
        let cs : List CountedFunction = counted_meanings val fs own_S in
        let acs : AllCounted cs = AllCounted-counted_each val fs own_S all in
        let ce : IsCountedFunction (counted_meaning val e own_S) = IsCounted-counted val e own_S all in
        let tc : Datum → List CountedFunction → CountedFunction = over_olds t own_S in
        let rs : List CountedFunction = counted_resume_each rv 0 cs [] d in
        by_own (p_switch r fs e t) s S o (d, x) y (suc (m + n) + k) h
        (subst (λ g. TakesSample (Stands val o) g [] (d, x) y (suc (m + n) + k)) (sym (counted-p_switch val r fs e t own_S))
        (p_switch_over_took rv cs (counted_meaning val e own_S) acs ce tc [] (d, x)
        (unseen-watching (collect rv (functions_of cs)) (counted_meaning val e own_S).function ce.is_signal_function) {P = StandsDirectly val o} vs w c y m
        n k
        (counted-olds t own_S all c rs (AllCounted-resume rv 0 cs acs [] d)) (starts_each ks own_S d own_h) (starts ke own_S d own_h) i
        (starts kt (context_with_olds (context_with_param own_S c) rs) d
        (Denotes-push_olds val (push_param s c) (context_with_param own_S c) (all_unstarted fs s) rs (Denotes-push_param val s own_S c own_h)
        (AllDenote-unstarted val rv 0 fs s own_S d own_h)))))
    starts (Stepping.start_old {k = k} {s = s} {f = f} {x = x} {a = a} {y = y} {n = n} e kr) S d h =
        let at : Found val f S.olds k = found val (frozens_of s) S.olds k f (FrozenDenotes-all s S h) e in
        subst (λ c. TakesSample (Stands val a) c [] (d, x) y (suc n))
        (sym (ap₂ (λ g v. let c : CountedFunction = record { function = g; visits = λ xs. first_and_one (v xs) } in c) at.same_signal at.same_counts))
        (resumes kr at.counted_of d at.denoted)
    starts (Stepping.start_initial_out {c = c} {f = f} {s = s} {x = x} {a = a} {v = v} {n = n} kf) S d h =
        let u : Datum = val c (params_of s) unit in
        by_own (initial_out c f) s S a (d, x) u (suc n) h
        (initial_out_took u (counted_meaning val f (own s S)) (part_of f s (own s S) (Denotes-own s S h)) (d, x) {P = StandsDirectly val a} v n
        (starts kf (own s S) d (Denotes-own s S h)))
    starts (Stepping.start_initial_in {c = c} {f = f} {s = s} {x = x} {a = a} {y = y} {n = n} kf) S d h =
        let u : Datum = val c (params_of s) unit in
        by_own (initial_in c f) s S a (d, x) y (suc n) h
        (initial_in_took u (counted_meaning val f (own s S)) (part_of f s (own s S) (Denotes-own s S h)) (d, x) {P = StandsDirectly val a} y n
        (starts kf (own s S) d (Denotes-own s S h)))
    starts (Stepping.start_rp_switch {fs = fs} {m = m} {t = t} {s = s} {x = x} {as' = as'} {ys = ys} {n = n} ks) S d h =
        let own_S : CountedContext = own s S in
        let own_h : Denotes val s own_S = Denotes-own s S h in
        let r : Datum → Datum = val m (params_of s) in
        let cs : List CountedFunction = counted_meanings val fs own_S in
        let tc : Datum → CountedFunction = over t own_S in
        by_own (rp_switch fs m t) s S (rp_switch_state m as' t s) (d, x) (list (list_of ys)) (suc n) h
        (subst (λ c. TakesSample (Stands val (rp_switch_state m as' t s)) c [] (d, x) (list (list_of ys)) (suc n)) (sym (counted-rp_switch val fs m t own_S))
        (Took-weaker (counted_rp_switch r cs tc) [] (d, x) (list (list_of ys)) (suc n) (λ c q sh. (own_S, own_h, sh))
        (collection_took val r t s tc (d, x) (λ v. (context_with_param own_S v, Denotes-push_param val s own_S v own_h, refl)) as' ys n (first_frozen fs s)
        (first_members cs) (first-counted val fs s own_S own_h) [] Uncut-nil (first-go val d fs s own_S own_h) (λ ns w. resumes_each ks ns d w))))

    pub starts_each : {h : ℕ → Datum → Datum} {i : ℕ} {fs : Networks L} {s : Scope L} {x : Datum} {as' : States L} {ys : List Datum} {n : ℕ}
        → StartsEach val h i fs s x as' ys n → (S : CountedContext) (d : ℕ) → Denotes val s S
        → EachTook (StandDirectly val as' h i) h i (counted_meanings val fs S) [] (d, x) ys n
    starts_each Stepping.start_none S d k = record { stand = tt; answered = refl; counted = refl }
    starts_each (Stepping.start_also {h = h} {i = i} {f = f} {fs = fs} {s = s} {x = x} {a = a} {as' = as'} {y = y} {ys = ys} {m = m} {n = n} kf ks) S d k =
        let one : TakesSample (Stands val a) (counted_meaning val f S) [] (d, h i x) y m = starts kf S d k in
        let rest : EachTook (StandDirectly val as' h (suc i)) h (suc i) (counted_meanings val fs S) [] (d, x) ys n = starts_each ks S d k in
        record {
          stand = (IsCounted-counted val f S (Denotes-counted_each val s S k), one.stands, rest.stand);
          answered = ap₂ (λ v vs. v ∷ vs) one.answered rest.answered;
          counted = ap₂ (λ m n. m + n) one.counted rest.counted;
        }

    pub resumes : {f : Frozen L} {x : Datum} {a : State L} {y : Datum} {n : ℕ} → Resumes val f x a y n → (o : CountedFunction) (e : ℕ) → FrozenDenotes val f o
        → TakesSample (Stands val a) (old_counted o) [] (e, x) y (suc n)
    resumes (Stepping.resume_unstarted {net = net} {s = s} {x = x} {a = a} {y = y} {n = n} k) o e w =
        subst (λ o. TakesSample (Stands val a) (old_counted o) [] (e, x) y (suc n)) (sym w.3)
        (resume_took (counted_meaning val net w.0) [] w.1 (IsCounted-counted val net w.0 (Denotes-counted_each val s w.0 w.2)) {P = StandsDirectly val a} (e, x)
        y n (starts k w.0 w.1 w.2))
    resumes (Stepping.resume_paused {b = b} {d = d} {x = x} {y = y} {n = n} k) o e w =
        subst (λ o. TakesSample (Stands val b) (old_counted o) [] (e, x) y (suc n)) (sym w.4)
        (resume_took w.0 w.1 d w.2 {P = StandsDirectly val b} (e, x) y n (steps k w.0 w.1 w.3))

    pub steps : {a a' : State L} {x : ℕ × Datum} {y : Datum} {n : ℕ} → Steps val a x a' y n → (c : CountedFunction) (p : TimedList) → Stands val a c p
        → TakesSample (Stands val a') c p x y n
    steps (Stepping.step_arr {e = e} {ps = ps} {x = x}) c p st =
        Took-equal c st.other _ p st.past x (val e ps x.1) 1 st.goes_on st.holds.same (arr_took (val e ps) st.past x)
    steps (Stepping.step_seq {x = x} {v = v} {y = y} {m = m} {n = n} ka kb) c p st =
        let h = st.holds in
        Took-equal c st.other _ p st.past x y (suc (m + n)) st.goes_on h.same
        (seq_took h.f h.g st.past x v y m n h.is_f h.is_g (steps ka h.f st.past h.first_part) (steps kb h.g _ h.second_part))
    steps (Stepping.step_first {x = x} {v = v} {n = n} ka) c p st =
        let h = st.holds in
        Took-equal c st.other _ p st.past x (pair v (right x.1)) (suc n) st.goes_on h.same (first_took h.f st.past x v n h.is_f (steps ka h.f _ h.first_part))
    steps (Stepping.step_par {as' = as'} {x = x} {ys = ys} {n = n} ks) c p st =
        let h = st.holds in
        Took-equal c st.other _ p st.past x (list (list_of ys)) (suc n) st.goes_on h.same
        (par_took h.cs st.past x ys n (StandDirectly-counted_each val as' same_input 0 h.cs st.past h.members) (steps_each ks h.cs st.past h.members))
    steps (Stepping.step_loop {u = u} {x = x} {v = v} {n = n} ka) c p st =
        let h = st.holds in
        Took-equal c st.other _ p st.past x (left v) (suc n) st.goes_on h.same
        (loop_took h.z h.f st.past x u v n h.is_f h.fed_next (steps ka h.f _ h.first_part))
    steps (Stepping.step_cell {k = k} {k' = k'} {x = x} {y = y} e) c p st =
        let h = st.holds in
        Took-equal c st.other _ p st.past x y 1 st.goes_on h.same
        (subst (λ q. TakesSample (StandsVia (CellStands k')) (counted_cell h.h) q x y 1) (sym h.same_past)
        (cell_took k k' h.h h.first_sample h.further x y e h.keeps))
    steps (Stepping.step_accum {g = g} {ps = ps} {acc = acc} {acc' = acc'} {x = x} e) c p st =
        let h = st.holds in
        Took-equal c st.other _ p st.past x (if_event x.1 acc') 1 st.goes_on h.same (accum_took (val g ps) h.z st.past x acc acc' h.so_far e)
    steps (Stepping.step_switch {tm = tm} {t = t} {s = s} {x = x} {v = v} {n = n} ka e) c p st =
        let S : CountedContext = st.holds.0 in
        let h = st.holds.2 in
        Took-equal c st.other _ p st.past x (left v) (suc n) st.goes_on h.same
        (Took-weaker _ st.past x (left v) (suc n) (λ c q sh. (S, st.holds.1, sh))
        (switch_took tm h.f (over t S) h.is_f st.past x h.unseen v n (steps ka h.f st.past h.first_part) e))
    steps (Stepping.step_switch_over {tm = tm} {b = b} {t = t} {s = s} {x = x} {v = v} {c = e} {y = y} {m = m} {n = n} ka i kt) c p st =
        let S : CountedContext = st.holds.0 in
        let h = st.holds.2 in
        Took-equal c st.other _ p st.past x (heard tm (left v) y) (suc m + n) st.goes_on h.same
        (switch_over_took tm h.f (over t S) h.is_f st.past x h.unseen {P = StandsDirectly val b} v e y m n
        (counted-over t S (Denotes-counted_each val s S st.holds.1) e) (steps ka h.f st.past h.first_part) i
        (starts kt (context_with_param S e) x.0 (Denotes-push_param val s S e st.holds.1)))
    steps (Stepping.step_r_switch {tm = tm} {t = t} {s = s} {x = x} {y = y} {n = n} e ka) c p st =
        let S : CountedContext = st.holds.0 in
        let h = st.holds.2 in
        Took-equal c st.other _ p st.past x y (suc n) st.goes_on h.same
        (Took-weaker _ st.past x y (suc n) (λ c q sh. (S, st.holds.1, sh))
        (r_switch_took tm (over t S) (counted-over t S (Denotes-counted_each val s S st.holds.1)) h.f h.is_f st.past x h.uncut y n e
        (steps ka h.f _ h.first_part)))
    steps (Stepping.step_cut_at_once {t = t} {s = s} {x = x} {u = u} {c = e} {y = y} {n = n} i kt) c p st =
        let S : CountedContext = st.holds.0 in
        let h = st.holds.2 in
        Took-equal c st.other _ p st.past x y (suc n) st.goes_on h.same
        (Took-weaker _ st.past x y (suc n) (λ c q sh. (S, st.holds.1, sh))
        (cut_at_once_took (over t S) (counted-over t S (Denotes-counted_each val s S st.holds.1)) h.f h.is_f st.past x h.uncut u e (cut_is x.1 u e i) y n
        (starts kt (context_with_param S e) x.0 (Denotes-push_param val s S e st.holds.1))))
    steps (Stepping.step_cut_delayed {a' = a'} {t = t} {s = s} {x = x} {u = u} {c = e} {v = v} {y = y} {m = m} {n = n} i ka kt) c p st =
        let S : CountedContext = st.holds.0 in
        let h = st.holds.2 in
        Took-equal c st.other _ p st.past x v (suc (m + n)) st.goes_on h.same
        (Took-weaker _ st.past x v (suc (m + n)) (λ c q sh. (S, st.holds.1, sh))
        (cut_delayed_took (over t S) (counted-over t S (Denotes-counted_each val s S st.holds.1)) h.f h.is_f st.past x h.uncut u e (cut_is x.1 u e i)
        {A = Stands val a'} v y m n (steps ka h.f _ h.first_part)
        (starts kt (context_with_param S e) x.0 (Denotes-push_param val s S e st.holds.1))))
    steps (Stepping.step_k_switch {t = t} {s = s} {x = x} {v = v} {w = w} {m = m} {n = n} ka kb i) c p st =
        let S : CountedContext = st.holds.0 in
        let h = st.holds.2 in
        Took-equal c st.other _ p st.past x v (suc (m + n)) st.goes_on h.same
        (Took-weaker _ st.past x v (suc (m + n)) (λ c q sh. (S, st.holds.1, sh))
        (k_switch_took h.f h.e h.is_f h.is_e (λ v o. over_olds t S v (o ∷ [])) st.past x h.unseen v w m n (steps ka h.f st.past h.first_part)
        (steps kb h.e _ h.second_part) i))
    steps (Stepping.step_k_switch_over {a = a} {o = o} {t = t} {s = s} {x = x} {v = v} {w = w} {c = e} {y = y} {m = m} {n = n} {k = k} ka kb i kt) c p st =
        let S : CountedContext = st.holds.0 in
        let h = st.holds.2 in
        let r : CountedFunction = counted_resume h.f st.past x.0 in
        let cr : IsCountedFunction r = IsCounted-resume h.f h.is_f st.past x.0 in
        Took-equal c st.other _ p st.past x y (suc (m + n) + k) st.goes_on h.same
        (k_switch_over_took h.f h.e h.is_f h.is_e (λ v o. over_olds t S v (o ∷ [])) st.past x h.unseen {P = StandsDirectly val o} v w e y m n k
        (counted-olds t S (Denotes-counted_each val s S st.holds.1) e (r ∷ []) (and_counted cr no_counted)) (steps ka h.f st.past h.first_part)
        (steps kb h.e _ h.second_part) i
        (starts kt (context_with_olds (context_with_param S e) (r ∷ [])) x.0
        (Denotes-push_olds val (push_param s e) (context_with_param S e) (and_frozen (paused a x.0) no_frozen) (r ∷ [])
        (Denotes-push_param val s S e st.holds.1) (cr, (h.f, st.past, h.is_f, h.first_part, refl), tt))))
    steps (Stepping.step_p_switch {r = r} {as' = as'} {t = t} {s = s} {x = x} {vs = vs} {w = w} {m = m} {n = n} ks kb i) c p st =
        let S : CountedContext = st.holds.0 in
        let h = st.holds.2 in
        let rv : Datum → Datum = val r (params_of s) in
        Took-equal c st.other _ p st.past x (list (list_of vs)) (suc (m + n)) st.goes_on h.same
        (Took-weaker _ st.past x (list (list_of vs)) (suc (m + n)) (λ c q sh. (S, st.holds.1, sh))
        (p_switch_took rv h.cs h.e (StandDirectly-counted_each val as' (route_by rv) 0 h.cs st.past h.members) h.is_e (over_olds t S) st.past x h.unseen vs w m n
        (steps_each ks h.cs st.past h.members) (steps kb h.e _ h.second_part) i))
    steps (Stepping.step_p_switch_over {r = r} {as' = as'} {o = o} {t = t} {s = s} {x = x} {vs = vs} {w = w} {c = e} {y = y} {m = m} {n = n} {k = k} ks kb i kt)
        c p st =
        let S : CountedContext = st.holds.0 in
        let h = st.holds.2 in
        let rv : Datum → Datum = val r (params_of s) in
        let acs : AllCounted h.cs = StandDirectly-counted_each val as' (route_by rv) 0 h.cs st.past h.members in
        let rs : List CountedFunction = counted_resume_each rv 0 h.cs st.past x.0 in
        Took-equal c st.other _ p st.past x y (suc (m + n) + k) st.goes_on h.same
        (p_switch_over_took rv h.cs h.e acs h.is_e (over_olds t S) st.past x h.unseen {P = StandsDirectly val o} vs w e y m n k
        (counted-olds t S (Denotes-counted_each val s S st.holds.1) e rs (AllCounted-resume rv 0 h.cs acs st.past x.0))
        (steps_each ks h.cs st.past h.members) (steps kb h.e _ h.second_part) i
        (starts kt (context_with_olds (context_with_param S e) rs) x.0
        (Denotes-push_olds val (push_param s e) (context_with_param S e) (all_paused as' x.0) rs (Denotes-push_param val s S e st.holds.1)
        (AllDenote-paused val rv 0 as' h.cs st.past x.0 h.members))))
    steps (Stepping.step_rp_switch {r = r} {as' = as'} {bs = bs} {t = t} {s = s} {x = x} {ys = ys} {n = n} ks) c p st =
        let S : CountedContext = st.holds.0 in
        let y : Datum = list (list_of ys) in
        Took-continues c st.other p st.past x y (suc n) st.goes_on
        (Took-weaker st.other st.past x y (suc n) (λ c q sh. (S, st.holds.1, sh))
        (collection_moves val (val r (params_of s)) t s (over t S) x (λ v. (context_with_param S v, Denotes-push_param val s S v st.holds.1, refl)) bs ys n as'
        st.other st.past st.holds.2 (λ ns w. resumes_each ks ns x.0 w)))

    -- what a frozen network goes on as takes the sample in that it resumes with
    goes_on : {f : Frozen L} {x : Datum} {a : State L} {y : Datum} {n : ℕ} → Resumes val f x a y n → (m : Member CountedFunction) (d : ℕ)
        → GoesAs val d f m → TakesSample (Stands val a) m.0 m.1 (d, x) y n
    goes_on (Stepping.resume_unstarted {x = x} {a = a} {y = y} {n = n} k) m d w =
        subst (λ (l : Member CountedFunction). TakesSample (Stands val a) l.0 l.1 (d, x) y n) (sym w.2) (starts k w.0 d w.1)
    goes_on (Stepping.resume_paused {b = b} {x = x} {y = y} {n = n} k) m d w =
        subst (λ e. TakesSample (Stands val b) m.0 m.1 (e, x) y n) w.1 (steps k m.0 m.1 w.2)

    pub resumes_each : {fs : List (Frozen L)} {x : Datum} {as' : States L} {ys : List Datum} {n : ℕ} → ResumesEach val fs x as' ys n
        → (ms : List (Member CountedFunction)) (d : ℕ) → AllPaired (GoesAs val d) fs ms → AllTook (StandEach val as') ms (d, x) ys n
    resumes_each Stepping.resume_none ms d no_pair = record { stand = tt; answered = refl; counted = refl }
    resumes_each (Stepping.resume_also {f = f} {x = x} {a = a} {as' = as'} {y = y} {ys = ys} {m = k} {n = n} kf ks) ms d (and_pair {b = m} {ys = ns} w ws) =
        let one : TakesSample (Stands val a) m.0 m.1 (d, x) y k = goes_on kf m d w in
        let rest : AllTook (StandEach val as') ns (d, x) ys n = resumes_each ks ns d ws in
        record {
          stand = (goes-counted val d f m w, one.stands, rest.stand);
          answered = ap₂ (λ v vs. v ∷ vs) one.answered rest.answered;
          counted = ap₂ (λ m n. m + n) one.counted rest.counted;
        }

    pub steps_each : {h : ℕ → Datum → Datum} {i : ℕ} {as' : States L} {x : ℕ × Datum} {bs : States L} {ys : List Datum} {n : ℕ}
        → StepsEach val h i as' x bs ys n → (cs : List CountedFunction) (p : TimedList) → StandDirectly val as' h i cs p
        → EachTook (StandDirectly val bs h i) h i cs p x ys n
    steps_each Stepping.step_none [] p ms = record { stand = tt; answered = refl; counted = refl }
    steps_each Stepping.step_none (c ∷ cs) p ms = absurd ms
    steps_each (Stepping.step_also ka ks) [] p ms = absurd ms
    steps_each (Stepping.step_also {h = h} {i = i} {a' = a'} {bs = bs} {x = x} {y = y} {ys = ys} {m = m} {n = n} ka ks) (c ∷ cs) p ms =
        let q : TimedList = each_value (h i) p in
        let z : ℕ × Datum = (x.0, h i x.1) in
        let one : TakesSample (Stands val a') c q z y m = steps ka c q ms.1 in
        let rest : EachTook (StandDirectly val bs h (suc i)) h (suc i) cs p x ys n = steps_each ks cs p ms.2 in
        record {
          stand = (ms.0, subst (Stands val a' c) (sym (map_push (λ u. (u.0, h i u.1)) p x)) one.stands, rest.stand);
          answered = ap₂ (λ v vs. v ∷ vs) one.answered rest.answered;
          counted = ap₂ (λ m n. m + n) one.counted rest.counted;
        }
