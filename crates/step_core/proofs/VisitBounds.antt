-- Each sample visits at most as many nodes as the network weighs, and no visits look ahead.
use Rattle.std.proofs.Common.{ℕ, suc, ◌+◌, ◌*◌, List, [], ◌∷◌, ◌++◌, drop, arith}
use Rattle.sample_core.specs.Datum.{Datum, unit}
use Rattle.net_meaning.specs.SignalFunction.{SignalFunction, with_values, pair_samples, first_event, rights, watch, collect, resume, freeze_all, with_first, IsSignalFunction}
use Rattle.net_tree.specs.Network.{Network, Networks, arr, seq, first, par, loop_pre, initial_out, initial_in, i_pre, delay, hold, accum_by, after, repeatedly, time, integral, at_once, delayed, switch, r_switch, rp_switch, k_switch, p_switch, old, no_members, and_member}
use Rattle.net_meaning.specs.Meaning.{Context, with_param, with_olds, meaning, meanings}
use Rattle.state_core.specs.Visits.{VisitCounts, add_counts, and_one, switch_counts, resume_counts, freeze_counts, sum_by_route, counts_at, visits, visits_all}
use Rattle.net_tree.specs.Height.{greatest}
use Rattle.net_tree.specs.Weight.{weight, weights, weight_at, total}
use Rattle.net_meaning.proofs.Plain.{AllSignals, no_signal, and_signal, IsSignal-watching}
use Rattle.net_meaning.proofs.Feedback.{fed, length-fed, fed-take}
use Rattle.net_meaning.proofs.Openings.{length-with_first, take-with_first}
use Rattle.net_meaning.proofs.Resumed.{IsSignal-resume}
use Rattle.net_meaning.proofs.Switches.{IsSignal-rights, IsSignal-collect, AllSignals-frozen_all}
use Rattle.net_meaning.proofs.Meanings.{IsSignal-meaning, AllSignals-meanings, AllSignals-append}
use Rattle.step_core.proofs.VisitSums.{IsCount, IsCount-weaker, IsCount-taken_over, IsCount-constant, IsCount-and_one, IsCount-first_and_one, IsCount-added, IsCount-before, IsCount-each, IsCount-beside, IsCount-restart, IsCount-resume, AllCounts, no_count, and_count, AllCounts-append, AllCounts-frozen, IsCount-sum_of_all, IsCount-sum_by_route, IsCount-counts_at}
use Rattle.step_core.proofs.MemberVisits.{IsCount-collection}

-- `switch` and `dSwitch`: what takes over at their f's first event adds its own visits
IsCount-switched : (f : SignalFunction) → IsSignalFunction f → (v w : ℕ) (ns : VisitCounts) (u : Datum → VisitCounts) → IsCount v ns
    → ((c : Datum) → IsCount w (u c))
    → IsCount (suc (v + w)) (λ xs. switch_counts (first_event (rights f xs)) (and_one (ns xs)) (λ n c. u c (drop n xs)))
IsCount-switched f sf v w ns u cn cu =
    IsCount-weaker (suc v + w) (suc (v + w)) _ (omega arith)
    (IsCount-taken_over (rights f) (IsSignal-rights f sf) (suc v) w (λ xs. and_one (ns xs)) (IsCount-and_one v ns cn) (λ c p d. u c) (λ c p d. cu c))

mutual
  pub IsCount-visits : {L : Type 0} (val : L → List Datum → Datum → Datum) (net : Network L) (E : Context) (C : List VisitCounts) (ws : List ℕ)
      → AllSignals E.olds → AllCounts ws C → IsCount (weight net ws) (visits val net E C)
  IsCount-visits val (seq f g) E C ws s a =
      IsCount-and_one (weight f ws + weight g ws) _
      (IsCount-added (weight f ws) (weight g ws) (visits val f E C) (λ xs. visits val g E C (with_values xs (meaning val f E xs)))
      (IsCount-visits val f E C ws s a)
      (IsCount-beside (weight g ws) _ (meaning val f E) (IsSignal-meaning val f E s) (visits val g E C) (IsCount-visits val g E C ws s a)))
  IsCount-visits val (first f) E C ws s a =
      IsCount-and_one (weight f ws) _ (IsCount-each (weight f ws) _ (visits val f E C) (IsCount-visits val f E C ws s a))
  IsCount-visits val (par fs) E C ws s a = IsCount-and_one (total (weights fs ws)) _
      (IsCount-sum_of_all (weights fs ws) (visits_all val fs E C) (AllCounts-visits_all val fs E C ws s a))
  IsCount-visits val (loop_pre c f) E C ws s a =
      let sf : IsSignalFunction (meaning val f E) = IsSignal-meaning val f E s in
      let start : Datum = val c E.params unit in
      IsCount-and_one (weight f ws) _
      (IsCount-before (weight f ws) (fed start (meaning val f E)) (visits val f E C) (length-fed start (meaning val f E) sf) (fed-take start (meaning val f E) sf)
      (IsCount-visits val f E C ws s a))
  IsCount-visits val (switch tm f t) E C ws s a =
      IsCount-switched (meaning val f E) (IsSignal-meaning val f E s) (weight f ws) (weight t ws) _ (λ c. visits val t (with_param E c) C)
      (IsCount-visits val f E C ws s a) (λ c. IsCount-visits val t (with_param E c) C ws s a)
  IsCount-visits val (r_switch at_once f t) E C ws s a =
      IsCount-weaker (suc (weight f ws + weight t ws + 0)) (suc (weight f ws + weight t ws)) _ (omega arith)
      (IsCount-and_one (weight f ws + weight t ws + 0) _
      (IsCount-restart at_once (visits val f E C) (λ c. visits val t (with_param E c) C) (weight f ws) (weight t ws) (IsCount-visits val f E C ws s a)
      (λ c. IsCount-visits val t (with_param E c) C ws s a)))
  IsCount-visits val (r_switch delayed f t) E C ws s a =
      IsCount-weaker (suc (weight f ws + weight t ws + weight t ws)) (suc (weight f ws + 2 * weight t ws)) _ (omega arith)
      (IsCount-and_one (weight f ws + weight t ws + weight t ws) _
      (IsCount-restart delayed (visits val f E C) (λ c. visits val t (with_param E c) C) (weight f ws) (weight t ws) (IsCount-visits val f E C ws s a)
      (λ c. IsCount-visits val t (with_param E c) C ws s a)))
  IsCount-visits val (k_switch f e t) E C ws s a =
      let sf : IsSignalFunction (meaning val f E) = IsSignal-meaning val f E s in
      let cf : IsCount (weight f ws) (visits val f E C) = IsCount-visits val f E C ws s a in
      IsCount-weaker (suc (weight f ws + weight e ws) + weight t (ws ++ weight f ws ∷ [])) (suc (weight f ws + weight e ws + weight t (ws ++ weight f ws ∷ [])))
      _ (omega arith)
      (IsCount-taken_over (watch (meaning val f E) (meaning val e E)) (IsSignal-watching (meaning val f E) (meaning val e E) sf (IsSignal-meaning val e E s))
      (suc (weight f ws + weight e ws)) (weight t (ws ++ weight f ws ∷ []))
      (λ xs. and_one (add_counts (visits val f E C xs) (visits val e E C (pair_samples xs (meaning val f E xs)))))
      (IsCount-and_one (weight f ws + weight e ws) _
      (IsCount-added (weight f ws) (weight e ws) (visits val f E C) (λ xs. visits val e E C (pair_samples xs (meaning val f E xs))) cf
      (IsCount-beside (weight e ws) _ (meaning val f E) sf (visits val e E C) (IsCount-visits val e E C ws s a))))
      (λ c p d. visits val t (with_olds (with_param E c) (resume (meaning val f E) p d ∷ [])) (C ++ resume_counts (visits val f E C) p d ∷ []))
      (λ c p d. IsCount-visits val t (with_olds (with_param E c) (resume (meaning val f E) p d ∷ [])) (C ++ resume_counts (visits val f E C) p d ∷ [])
      (ws ++ weight f ws ∷ [])
      (AllSignals-append E.olds _ s (and_signal (IsSignal-resume (meaning val f E) sf p d) no_signal))
      (AllCounts-append ws (weight f ws ∷ []) C _ a (and_count (IsCount-resume (weight f ws) (visits val f E C) cf p d) no_count))))
  IsCount-visits val (p_switch r fs e t) E C ws s a =
      let sf : AllSignals (meanings val fs E) = AllSignals-meanings val fs E s in
      let cf : AllCounts (weights fs ws) (visits_all val fs E C) = AllCounts-visits_all val fs E C ws s a in
      let rv : Datum → Datum = val r E.params in
      let together : SignalFunction = collect rv (meanings val fs E) in
      let st : IsSignalFunction together = IsSignal-collect rv (meanings val fs E) sf in
      IsCount-weaker (suc (total (weights fs ws) + weight e ws) + weight t (ws ++ weights fs ws))
      (suc (total (weights fs ws) + weight e ws + weight t (ws ++ weights fs ws))) _ (omega arith)
      (IsCount-taken_over (watch together (meaning val e E)) (IsSignal-watching together (meaning val e E) st (IsSignal-meaning val e E s))
      (suc (total (weights fs ws) + weight e ws)) (weight t (ws ++ weights fs ws))
      (λ xs. and_one (add_counts (sum_by_route rv 0 (visits_all val fs E C) xs) (visits val e E C (pair_samples xs (together xs)))))
      (IsCount-and_one (total (weights fs ws) + weight e ws) _
      (IsCount-added (total (weights fs ws)) (weight e ws) (sum_by_route rv 0 (visits_all val fs E C))
      (λ xs. visits val e E C (pair_samples xs (together xs)))
      (IsCount-sum_by_route rv 0 (weights fs ws) (visits_all val fs E C) cf)
      (IsCount-beside (weight e ws) _ together st (visits val e E C) (IsCount-visits val e E C ws s a))))
      (λ c p d. visits val t (with_olds (with_param E c) (freeze_all rv 0 (meanings val fs E) p d)) (C ++ freeze_counts rv 0 (visits_all val fs E C) p d))
      (λ c p d. IsCount-visits val t (with_olds (with_param E c) (freeze_all rv 0 (meanings val fs E) p d))
      (C ++ freeze_counts rv 0 (visits_all val fs E C) p d) (ws ++ weights fs ws)
      (AllSignals-append E.olds _ s (AllSignals-frozen_all rv 0 (meanings val fs E) sf p d))
      (AllCounts-append ws (weights fs ws) C _ a (AllCounts-frozen rv 0 (weights fs ws) (visits_all val fs E C) cf p d))))
  IsCount-visits val (old k) E C ws s a = IsCount-first_and_one (weight_at ws k) (counts_at C k) (IsCount-counts_at ws C a k)
  IsCount-visits val (initial_out c f) E C ws s a = IsCount-first_and_one (weight f ws) (visits val f E C) (IsCount-visits val f E C ws s a)
  IsCount-visits val (initial_in c f) E C ws s a =
      IsCount-first_and_one (weight f ws) _
      (IsCount-before (weight f ws) (with_first (val c E.params unit)) (visits val f E C) (length-with_first (val c E.params unit))
      (take-with_first (val c E.params unit)) (IsCount-visits val f E C ws s a))
  IsCount-visits val (rp_switch fs m t) E C ws s a =
      IsCount-and_one (64 * greatest (weight t ws ∷ weights fs ws)) _
      (IsCount-collection (val m E.params) (weight t ws) (weights fs ws) (λ v. visits val t (with_param E v) C) (visits_all val fs E C)
      (λ v. IsCount-visits val t (with_param E v) C ws s a) (AllCounts-visits_all val fs E C ws s a))
  IsCount-visits val (arr e) E C ws s a = IsCount-constant 1
  IsCount-visits val (i_pre c) E C ws s a = IsCount-constant 1
  IsCount-visits val (delay q c) E C ws s a = IsCount-constant 1
  IsCount-visits val (hold c) E C ws s a = IsCount-constant 1
  IsCount-visits val (accum_by g z) E C ws s a = IsCount-constant 1
  IsCount-visits val (after q c) E C ws s a = IsCount-constant 1
  IsCount-visits val (repeatedly q c) E C ws s a = IsCount-constant 1
  IsCount-visits val time E C ws s a = IsCount-constant 1
  IsCount-visits val integral E C ws s a = IsCount-constant 1

  pub AllCounts-visits_all : {L : Type 0} (val : L → List Datum → Datum → Datum) (fs : Networks L) (E : Context) (C : List VisitCounts) (ws : List ℕ)
      → AllSignals E.olds → AllCounts ws C → AllCounts (weights fs ws) (visits_all val fs E C)
  AllCounts-visits_all val no_members E C ws s a = no_count
  AllCounts-visits_all val (and_member f fs) E C ws s a = and_count (IsCount-visits val f E C ws s a) (AllCounts-visits_all val fs E C ws s a)
