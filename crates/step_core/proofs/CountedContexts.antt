-- What scopes denote.
use Rattle.std.proofs.Common.{◌≡◌, ℕ, zero, suc, List, [], ◌∷◌, ◌++◌, map, take, drop, refl, sym, ap, ap₂, ◌∙◌, Option, Some, None}
use Rattle.std.proofs.lemmas.List.{take-map}
use mathlib.Core.Path.{fun_ext}
use Rattle.sample_core.specs.Datum.{Datum}
use Rattle.net_meaning.specs.SignalFunction.{TimedList, SignalFunction, route, par_function, switch_at, watch, first_event, pair_samples, step_of, freeze_all, resume, collect, pieces, Member, new_members, first_members, by_members, member_outputs}
use Rattle.net_tree.specs.Network.{Network, Networks, par, rp_switch, k_switch, p_switch, no_members, and_member}
use Rattle.net_meaning.specs.Meaning.{old_at, meaning, meanings}
use Rattle.state_core.specs.Visits.{VisitCounts, counts_at, visits, visits_all, freeze_counts, and_one, add_counts, sum_of_all, sum_by_route, switch_counts, resume_counts, member_counts}
use Rattle.net_tree.specs.Weight.{weight}
use Rattle.state_core.specs.CountedFunction.{CountedFunction, IsCountedFunction}
use Rattle.state_core.specs.CountedForms.{functions_of, counts_of_all, route_by, counted_resume, counted_resume_each, counted_par, counted_rp_switch, counted_k_switch, counted_p_switch}
use Rattle.state_core.specs.CountedContext.{CountedContext, context_in, context_with_param, context_with_olds, counted_meaning, counted_meanings}
use Rattle.state_core.specs.State.{States, Scope, Frozens, Frozen, no_state, and_state, scope, no_frozen, and_frozen, append_frozens, frozen_at, push_param, push_olds, all_unstarted, all_paused}
use Rattle.state_core.specs.Stands.{StandDirectly, Denotes, AllDenote, FrozenDenotes}
use Rattle.net_meaning.proofs.Meanings.{IsSignal-meaning}
use Rattle.net_meaning.proofs.MappedMembers.{new_members-map}
use Rattle.step_core.proofs.VisitBounds.{IsCount-visits}
use Rattle.step_core.proofs.VisitSums.{AllCounts}
use Rattle.step_core.proofs.MemberCounts.{AllCounted, no_counted, and_counted, AllCounted-signals, heaviest_of, IsCounted-resume, together}

pub signals-append : (cs ds : List CountedFunction) → functions_of (cs ++ ds) ≡ functions_of cs ++ functions_of ds
signals-append [] ds = refl
signals-append (c ∷ cs) ds = ap (λ fs. c.function ∷ fs) (signals-append cs ds)

pub counts-append : (cs ds : List CountedFunction) → counts_of_all (cs ++ ds) ≡ counts_of_all cs ++ counts_of_all ds
counts-append [] ds = refl
counts-append (c ∷ cs) ds = ap (λ fs. c.visits ∷ fs) (counts-append cs ds)

first-mapped : {X Y : Type 0} (h : X → Y) (xs : List X) → map (λ m. (h m.0, m.1)) (first_members xs) ≡ first_members (map h xs)
first-mapped h xs = sym (take-map (λ m. (h m.0, m.1)) 64 (new_members xs)) ∙ ap (take 64) (new_members-map h xs)

module _ {L : Type 0} (val : L → List Datum → Datum → Datum) where
  pub IsCounted-counted : (net : Network L) (S : CountedContext) → AllCounted S.olds → IsCountedFunction (counted_meaning val net S)
  IsCounted-counted net S a =
      let w : (ws : List ℕ) × AllCounts ws (counts_of_all S.olds) = heaviest_of S.olds a in
      record {
        is_signal_function = IsSignal-meaning val net (context_in S) (AllCounted-signals S.olds a);
        heaviest = weight net w.0;
        is_count = IsCount-visits val net (context_in S) (counts_of_all S.olds) w.0 (AllCounted-signals S.olds a) w.1;
      }

  pub AllCounted-counted_each : (fs : Networks L) (S : CountedContext) → AllCounted S.olds → AllCounted (counted_meanings val fs S)
  AllCounted-counted_each no_members S a = no_counted
  AllCounted-counted_each (and_member f fs) S a = and_counted (IsCounted-counted f S a) (AllCounted-counted_each fs S a)

  signals-counted_each : (fs : Networks L) (S : CountedContext) → functions_of (counted_meanings val fs S) ≡ meanings val fs (context_in S)
  signals-counted_each no_members S = refl
  signals-counted_each (and_member f fs) S = ap (λ gs. (counted_meaning val f S).function ∷ gs) (signals-counted_each fs S)

  counts-counted_each : (fs : Networks L) (S : CountedContext)
      → counts_of_all (counted_meanings val fs S) ≡ visits_all val fs (context_in S) (counts_of_all S.olds)
  counts-counted_each no_members S = refl
  counts-counted_each (and_member f fs) S = ap (λ gs. (counted_meaning val f S).visits ∷ gs) (counts-counted_each fs S)

  AllDenote-counted_each : (fs : Frozens L) (os : List CountedFunction) → AllDenote val fs os → AllCounted os
  AllDenote-counted_each no_frozen [] d = no_counted
  AllDenote-counted_each no_frozen (o ∷ os) d = absurd d
  AllDenote-counted_each (and_frozen f fs) [] d = absurd d
  AllDenote-counted_each (and_frozen f fs) (o ∷ os) d = and_counted d.0 (AllDenote-counted_each fs os d.2)

  pub Denotes-counted_each : (s : Scope L) (S : CountedContext) → Denotes val s S → AllCounted S.olds
  Denotes-counted_each (scope ps fs) S d = AllDenote-counted_each fs S.olds d.1

  pub Denotes-push_param : (s : Scope L) (S : CountedContext) (c : Datum) → Denotes val s S → Denotes val (push_param s c) (context_with_param S c)
  Denotes-push_param (scope ps fs) S c d = (ap (λ vs. vs ++ c ∷ []) d.0, d.1)

  AllDenote-append : (fs gs : Frozens L) (os us : List CountedFunction) → AllDenote val fs os → AllDenote val gs us
      → AllDenote val (append_frozens fs gs) (os ++ us)
  AllDenote-append no_frozen gs [] us d e = e
  AllDenote-append no_frozen gs (o ∷ os) us d e = absurd d
  AllDenote-append (and_frozen f fs) gs [] us d e = absurd d
  AllDenote-append (and_frozen f fs) gs (o ∷ os) us d e = (d.0, d.1, AllDenote-append fs gs os us d.2 e)

  pub Denotes-push_olds : (s : Scope L) (S : CountedContext) (gs : Frozens L) (us : List CountedFunction) → Denotes val s S → AllDenote val gs us
      → Denotes val (push_olds s gs) (context_with_olds S us)
  Denotes-push_olds (scope ps fs) S gs us d e = (d.0, AllDenote-append fs gs S.olds us d.1 e)

  pub AllDenote-unstarted : (r : Datum → Datum) (i : ℕ) (fs : Networks L) (s : Scope L) (S : CountedContext) (d : ℕ) → Denotes val s S
      → AllDenote val (all_unstarted fs s) (counted_resume_each r i (counted_meanings val fs S) [] d)
  AllDenote-unstarted r i no_members s S d h = tt
  AllDenote-unstarted r i (and_member f fs) s S d h = (
    IsCounted-resume (counted_meaning val f S) (IsCounted-counted f S (Denotes-counted_each s S h)) [] d,
    (S, d, h, refl),
    AllDenote-unstarted r (suc i) fs s
        S d h,
  )

  pub AllDenote-paused : (r : Datum → Datum) (i : ℕ) (as' : States L) (cs : List CountedFunction) (q : TimedList) (d : ℕ)
      → StandDirectly val as' (route_by r) i cs q → AllDenote val (all_paused as' d) (counted_resume_each r i cs q d)
  AllDenote-paused r i no_state [] q d h = tt
  AllDenote-paused r i no_state (c ∷ cs) q d h = absurd h
  AllDenote-paused r i (and_state a as') [] q d h = absurd h
  AllDenote-paused r i (and_state a as') (c ∷ cs) q d h =
      (IsCounted-resume c h.0 (route r i q) d, (c, route r i q, h.0, h.1, refl), AllDenote-paused r (suc i) as' cs q d h.2)

  pub StandDirectly-counted_each : (as' : States L) (h : ℕ → Datum → Datum) (i : ℕ) (cs : List CountedFunction) (q : TimedList) → StandDirectly val as' h i cs q
      → AllCounted cs
  StandDirectly-counted_each no_state h i [] q s = no_counted
  StandDirectly-counted_each no_state h i (c ∷ cs) q s = absurd s
  StandDirectly-counted_each (and_state a as') h i [] q s = absurd s
  StandDirectly-counted_each (and_state a as') h i (c ∷ cs) q s = and_counted s.0 (StandDirectly-counted_each as' h (suc i) cs q s.2)

  -- the frozen network k
  pub record Found (f : Frozen L) (os : List CountedFunction) (k : ℕ) : Type 0 where
    pub counted_of : CountedFunction
    pub is_counted : IsCountedFunction counted_of
    pub denoted : FrozenDenotes val f counted_of
    pub same_signal : old_at (functions_of os) k ≡ counted_of.function
    pub same_counts : counts_at (counts_of_all os) k ≡ counted_of.visits

  abbrev frozen_or : Frozen L → Option (Frozen L) → Frozen L
  frozen_or g None = g
  frozen_or g (Some f) = f

  pub found : (fs : Frozens L) (os : List CountedFunction) (k : ℕ) (f : Frozen L) → AllDenote val fs os → frozen_at fs k ≡ Some f → Found f os k
  found no_frozen os k f d e = cc
  found (and_frozen g fs) [] k f d e = absurd d
  found (and_frozen g fs) (o ∷ os) zero f d e =
      record { counted_of = o; is_counted = d.0; denoted = rw (sym (ap (frozen_or g) e)) d.1; same_signal = refl; same_counts = refl }
  found (and_frozen g fs) (o ∷ os) (suc k) f d e =
      let h : Found f os k = found fs os k f d.2 e in
      record { counted_of = h.counted_of; is_counted = h.is_counted; denoted = h.denoted; same_signal = h.same_signal; same_counts = h.same_counts }

  -- the forms whose counted functions go by lists
  pub counted-par : (fs : Networks L) (S : CountedContext) → counted_meaning val (par fs) S ≡ counted_par (counted_meanings val fs S)
  counted-par fs S = ap₂ (λ gs vs. let c : CountedFunction = record { function = par_function gs; visits = λ xs. and_one (sum_of_all vs xs) } in c)
      (sym (signals-counted_each fs S)) (sym (counts-counted_each fs S))

  pub counted-rp_switch : (fs : Networks L) (m : L) (t : Network L) (S : CountedContext)
      → counted_meaning val (rp_switch fs m t) S
      ≡ counted_rp_switch (val m S.params) (counted_meanings val fs S) (λ v. counted_meaning val t (context_with_param S v))
  counted-rp_switch fs m t S =
      let r : Datum → Datum = val m S.params in
      let cs : List CountedFunction = counted_meanings val fs S in
      let tc : Datum → CountedFunction = λ v. counted_meaning val t (context_with_param S v) in
      let F : List (Member SignalFunction) → List (Member VisitCounts) → CountedFunction = λ gs vs. record {
        function = λ xs. by_members member_outputs r (λ v. (tc v).function) gs (pieces xs).0 (pieces xs).1;
        visits = λ xs. and_one (by_members member_counts r (λ v. (tc v).visits) vs (pieces xs).0 (pieces xs).1);
      } in
      ap₂ F (ap first_members (sym (signals-counted_each fs S)) ∙ sym (first-mapped (λ c. c.function) cs))
      (ap first_members (sym (counts-counted_each fs S)) ∙ sym (first-mapped (λ c. c.visits) cs))

  -- a switch of f and e to t, under what the frozen networks are
  abbrev frozen_counted : CountedFunction → CountedFunction → Network L → CountedContext → (TimedList → ℕ → List SignalFunction)
      → (TimedList → ℕ → List VisitCounts) → CountedFunction
  frozen_counted f e t S A B = record {
    function = switch_at f.function (watch f.function e.function) (λ c p d. meaning val t (record { params = S.params ++ c ∷ []; olds = A p d }));
    visits = λ xs. switch_counts (first_event (e.function (pair_samples xs (f.function xs))))
        (and_one (add_counts (f.visits xs) (e.visits (pair_samples xs (f.function xs)))))
        (λ n c. visits val t (record { params = S.params ++ c ∷ []; olds = A (take n xs) (step_of (drop n xs)) }) (B (take n xs) (step_of (drop n xs)))
        (drop n xs));
  }

  pub counted-k_switch : (f e t : Network L) (S : CountedContext)
      → counted_meaning val (k_switch f e t) S ≡ counted_k_switch (counted_meaning val f S) (counted_meaning val e S)
      (λ v o. counted_meaning val t (context_with_olds (context_with_param S v) (o ∷ [])))
  counted-k_switch f e t S =
      let cf : CountedFunction = counted_meaning val f S in
      ap₂ (frozen_counted cf (counted_meaning val e S) t S)
      (fun_ext (λ p. fun_ext (λ d. sym (signals-append S.olds (counted_resume cf p d ∷ [])))))
      (fun_ext (λ p. fun_ext (λ d. sym (counts-append S.olds (counted_resume cf p d ∷ [])))))

  signals-resume : (r : Datum → Datum) (i : ℕ) (cs : List CountedFunction) (p : TimedList) (d : ℕ)
      → functions_of (counted_resume_each r i cs p d) ≡ freeze_all r i (functions_of cs) p d
  signals-resume r i [] p d = refl
  signals-resume r i (c ∷ cs) p d = ap (λ fs. resume c.function (route r i p) d ∷ fs) (signals-resume r (suc i) cs p d)

  counts-resume : (r : Datum → Datum) (i : ℕ) (cs : List CountedFunction) (p : TimedList) (d : ℕ)
      → counts_of_all (counted_resume_each r i cs p d) ≡ freeze_counts r i (counts_of_all cs) p d
  counts-resume r i [] p d = refl
  counts-resume r i (c ∷ cs) p d = ap (λ fs. resume_counts c.visits (route r i p) d ∷ fs) (counts-resume r (suc i) cs p d)

  pub counted-p_switch : (r : L) (fs : Networks L) (e t : Network L) (S : CountedContext)
      → counted_meaning val (p_switch r fs e t) S ≡ counted_p_switch (val r S.params) (counted_meanings val fs S) (counted_meaning val e S)
      (λ v os. counted_meaning val t (context_with_olds (context_with_param S v) os))
  counted-p_switch r fs e t S =
      let rv : Datum → Datum = val r S.params in
      let cs : List CountedFunction = counted_meanings val fs S in
      let F : List SignalFunction → List VisitCounts
      → CountedFunction = λ gs vs. frozen_counted (record { function = collect rv gs; visits = sum_by_route rv 0 vs }) (counted_meaning val e S) t S
      (λ p d. functions_of S.olds ++ freeze_all rv 0 gs p d) (λ p d. counts_of_all S.olds ++ freeze_counts rv 0 vs p d) in
      ap₂ F (sym (signals-counted_each fs S)) (sym (counts-counted_each fs S))
      ∙ ap₂ (frozen_counted (together rv cs) (counted_meaning val e S) t S)
      (fun_ext
      (λ p. fun_ext (λ d. ap (λ fs. functions_of S.olds ++ fs) (sym (signals-resume rv 0 cs p d))
      ∙ sym (signals-append S.olds (counted_resume_each rv 0 cs p d)))))
      (fun_ext
      (λ p. fun_ext (λ d. ap (λ fs. counts_of_all S.olds ++ fs) (sym (counts-resume rv 0 cs p d))
      ∙ sym (counts-append S.olds (counted_resume_each rv 0 cs p d)))))
