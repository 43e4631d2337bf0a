-- `parB` and `pSwitch` take a sample in where their members do.
use Rattle.std.proofs.Common.{◌≡◌, ℕ, suc, ◌+◌, List, [], ◌∷◌, ◌++◌, map, length, refl, sym, ap, ap₂, ◌∙◌, arith, length-append, Some, None}
use Rattle.std.proofs.lemmas.List.{map_push}
use Rattle.sample_core.specs.Datum.{Datum, list, list_of, pair}
use Rattle.net_meaning.specs.SignalFunction.{TimedList, last_or, each_value, route, route_each, collect, first_event, watch, pair_samples, answer, event_in}
use Rattle.state_core.specs.Visits.{IsCount, VisitCounts, zeros, sum_of_all, sum_by_route}
use Rattle.net_tree.specs.Weight.{total}
use Rattle.state_core.specs.CountedFunction.{CountedFunction, IsCountedFunction, StandsVia, TakesSample, visits_at}
use Rattle.state_core.specs.CountedForms.{counted_par, functions_of, counts_of_all, same_input, route_by, counted_resume, counted_resume_each, counted_p_switch}
use Rattle.state_core.specs.StandsByForm.{ParStands, PSwitchStands}
use Rattle.net_meaning.proofs.Plain.{AllSignals, no_signal, and_signal}
use Rattle.net_meaning.proofs.Switches.{IsSignal-collect, AllSignals-routes}
use Rattle.net_meaning.proofs.Resumed.{IsSignal-resume}
use Rattle.step_core.proofs.VisitSums.{AllCounts, no_count, and_count, IsCount-sum_of_all, IsCount-sum_by_route, IsCount-each, IsCount-resume}
use Rattle.net_meaning.proofs.Steps.{last_or-push}
use Rattle.net_meaning.proofs.PlainSteps.{answers, answer-in_parallel, answer-before}
use Rattle.step_core.proofs.CountedFunctions.{Via-here, tally-and_one, tally-added}
use Rattle.step_core.proofs.SwitchCounts.{Quiet, watch_quiet, watch_over}

pub data AllCounted : List CountedFunction → Type 0 where
  no_counted : AllCounted []
  and_counted : {c : CountedFunction} {cs : List CountedFunction} → IsCountedFunction c → AllCounted cs → AllCounted (c ∷ cs)

pub AllCounted-signals : (cs : List CountedFunction) → AllCounted cs → AllSignals (functions_of cs)
AllCounted-signals [] a = no_signal
AllCounted-signals (c ∷ cs) (and_counted i a) = and_signal i.is_signal_function (AllCounted-signals cs a)

pub heaviest_of : (cs : List CountedFunction) → AllCounted cs → (ws : List ℕ) × AllCounts ws (counts_of_all cs)
heaviest_of [] a = ([], no_count)
heaviest_of (c ∷ cs) (and_counted i a) = let rest : (ws : List ℕ) × AllCounts ws (counts_of_all cs) = heaviest_of cs a in
    (i.heaviest ∷ rest.0, and_count i.is_count rest.1)

pub AllCounted-append : (cs ds : List CountedFunction) → AllCounted cs → AllCounted ds → AllCounted (cs ++ ds)
AllCounted-append [] ds a b = b
AllCounted-append (c ∷ cs) ds (and_counted i a) b = and_counted i (AllCounted-append cs ds a b)

pub IsCounted-resume : (c : CountedFunction) → IsCountedFunction c → (q : TimedList) (d : ℕ) → IsCountedFunction (counted_resume c q d)
IsCounted-resume c i q d =
    record {
      is_signal_function = IsSignal-resume c.function i.is_signal_function q d;
      heaviest = i.heaviest;
      is_count =
          IsCount-resume i.heaviest c.visits i.is_count q d;
    }

pub AllCounted-resume : (r : Datum → Datum) (i : ℕ) (cs : List CountedFunction) → AllCounted cs → (q : TimedList) (d : ℕ)
    → AllCounted (counted_resume_each r i cs q d)
AllCounted-resume r i [] a q d = no_counted
AllCounted-resume r i (c ∷ cs) (and_counted k a) q d = and_counted (IsCounted-resume c k (route r i q) d) (AllCounted-resume r (suc i) cs a q d)

-- what the members answer and visit
abbrev pub answers_each : (ℕ → Datum → Datum) → ℕ → List CountedFunction → TimedList → ℕ × Datum → List Datum
answers_each h i [] p x = []
answers_each h i (c ∷ cs) p x = answer c.function (each_value (h i) p) (x.0, h i x.1) ∷ answers_each h (suc i) cs p x

abbrev pub tally_each : (ℕ → Datum → Datum) → ℕ → List CountedFunction → TimedList → ℕ × Datum → ℕ
tally_each h i [] p x = 0
tally_each h i (c ∷ cs) p x = visits_at c.visits (each_value (h i) p) (x.0, h i x.1) + tally_each h (suc i) cs p x

-- the members from i on took a sample in, each what it gets of it
pub record EachTook (M : List CountedFunction → TimedList → Type 0) (h : ℕ → Datum
    → Datum) (i : ℕ) (cs : List CountedFunction) (p : TimedList) (x : ℕ × Datum) (ys : List Datum) (n : ℕ) : Type 0 where
  pub stand : M cs (p ++ x ∷ [])
  pub answered : ys ≡ answers_each h i cs p x
  pub counted : n ≡ tally_each h i cs p x

each_value-every : (i : ℕ) (p : TimedList) → each_value (same_input i) p ≡ p
each_value-every i [] = refl
each_value-every i (x ∷ p) = ap (λ q. x ∷ q) (each_value-every i p)

answers-every : (i : ℕ) (cs : List CountedFunction) (p : TimedList) (x : ℕ × Datum) → answers_each same_input i cs p x ≡ answers (functions_of cs) p x
answers-every i [] p x = refl
answers-every i (c ∷ cs) p x = ap₂ (λ y ys. y ∷ ys) (ap (λ q. answer c.function q x) (each_value-every i p)) (answers-every (suc i) cs p x)

answers-route : (r : Datum → Datum) (i : ℕ) (cs : List CountedFunction) (p : TimedList) (x : ℕ × Datum)
    → answers_each (route_by r) i cs p x ≡ answers (route_each r i (functions_of cs)) p x
answers-route r i [] p x = refl
answers-route r i (c ∷ cs) p x = ap₂ (λ y ys. y ∷ ys) (sym (answer-before (route_by r i) c.function p x)) (answers-route r (suc i) cs p x)

pub tally-zeros : (p : TimedList) (x : ℕ × Datum) → visits_at zeros p x ≡ 0
tally-zeros p x = ap (last_or 0) (map_push (λ y. 0) p x) ∙ last_number (map (λ y. 0) p)
  where
    last_number : (ns : List ℕ) → last_or 0 (ns ++ 0 ∷ []) ≡ 0
    last_number ns = last_or-push 0 ns 0

counted-all : (cs : List CountedFunction) → AllCounted cs → (xs : TimedList) → length (sum_of_all (counts_of_all cs) xs) ≡ length xs
counted-all cs a xs = let w : (ws : List ℕ) × AllCounts ws (counts_of_all cs) = heaviest_of cs a in (IsCount-sum_of_all w.0 (counts_of_all cs) w.1).counted xs

tally-every : (i : ℕ) (cs : List CountedFunction) → AllCounted cs → (p : TimedList) (x : ℕ × Datum)
    → tally_each same_input i cs p x ≡ visits_at (sum_of_all (counts_of_all cs)) p x
tally-every i [] a p x = sym (tally-zeros p x)
tally-every i (c ∷ cs) (and_counted k a) p x =
    let more : TimedList = p ++ x ∷ [] in
    ap₂ (λ m n. m + n) (ap (λ q. visits_at c.visits q x) (each_value-every i p)) (tally-every (suc i) cs a p x)
    ∙ sym (tally-added c.visits (sum_of_all (counts_of_all cs)) p x (counted-all cs a more ∙ sym (k.is_count.counted more)))

IsCount-route : (r : Datum → Datum) (i : ℕ) (cs : List CountedFunction) (a : AllCounted cs)
    → IsCount (total (heaviest_of cs a).0) (sum_by_route r i (counts_of_all cs))
IsCount-route r i cs a = IsCount-sum_by_route r i (heaviest_of cs a).0 (counts_of_all cs) (heaviest_of cs a).1

tally-route : (r : Datum → Datum) (i : ℕ) (cs : List CountedFunction) → AllCounted cs → (p : TimedList) (x : ℕ × Datum)
    → tally_each (route_by r) i cs p x ≡ visits_at (sum_by_route r i (counts_of_all cs)) p x
tally-route r i [] a p x = sym (tally-zeros p x)
tally-route r i (c ∷ cs) (and_counted k a) p x =
    let more : TimedList = p ++ x ∷ [] in
    let v : VisitCounts = λ xs. c.visits (route r i xs) in
    let cv : IsCount k.heaviest v = IsCount-each k.heaviest _ c.visits k.is_count in
    ap₂ (λ m n. m + n) (ap (λ ys. last_or 0 (c.visits ys)) (sym (map_push (λ y. (y.0, route_by r i y.1)) p x))) (tally-route r (suc i) cs a p x)
    ∙ sym (tally-added v (sum_by_route r (suc i) (counts_of_all cs)) p x ((IsCount-route r (suc i) cs a).counted more ∙ sym (cv.counted more)))

pub par_took : {M : List CountedFunction → TimedList → Type 0} (cs : List CountedFunction) (q : TimedList) (x : ℕ × Datum) (ys : List Datum) (n : ℕ)
    → AllCounted cs → EachTook M same_input 0 cs q x ys n → TakesSample (StandsVia (ParStands M)) (counted_par cs) q x (list (list_of ys)) (suc n)
par_took {M} cs q x ys n a t =
    let more : TimedList = q ++ x ∷ [] in
    let l : length (sum_of_all (counts_of_all cs) more) ≡ length more = counted-all cs a more in
    record {
      stands = Via-here (counted_par cs) more (record { cs = cs; members = t.stand; same = refl });
      answered = ap (λ vs. list (list_of vs)) (t.answered ∙ answers-every 0 cs q x) ∙ sym (answer-in_parallel (functions_of cs) (AllCounted-signals cs a) q x);
      counted = ap suc (t.counted ∙ tally-every 0 cs a q x) ∙ sym (tally-and_one (sum_of_all (counts_of_all cs)) q x (omega (arith, length-append q (x ∷ []))));
    }

-- the members of `pSwitch` together
abbrev pub together : (Datum → Datum) → List CountedFunction → CountedFunction
together r cs = record { function = collect r (functions_of cs); visits = sum_by_route r 0 (counts_of_all cs) }

pub IsCounted-together : (r : Datum → Datum) (cs : List CountedFunction) → AllCounted cs → IsCountedFunction (together r cs)
IsCounted-together r cs a = record {
  is_signal_function = IsSignal-collect r (functions_of cs) (AllCounted-signals cs a);
  heaviest = total (heaviest_of cs a).0;
  is_count = IsCount-route r 0 cs a;
}

module _ (r : Datum → Datum) (cs : List CountedFunction) (e : CountedFunction) (a : AllCounted cs) (ce : IsCountedFunction e) (t : Datum → List CountedFunction
    → CountedFunction) (q : TimedList) (x : ℕ × Datum) (i : first_event (watch (collect r (functions_of cs)) e.function q) ≡ None) where
  answer-together : (vs : List Datum) → vs ≡ answers_each (route_by r) 0 cs q x → list (list_of vs) ≡ answer (together r cs).function q x
  answer-together vs h = ap (λ vs. list (list_of vs)) (h ∙ answers-route r 0 cs q x)
      ∙ sym (answer-in_parallel (route_each r 0 (functions_of cs)) (AllSignals-routes r 0 (functions_of cs) (AllCounted-signals cs a)) q x)

  pub p_switch_took : {M : List CountedFunction → TimedList → Type 0} {B : CountedFunction → TimedList → Type 0} (vs : List Datum) (w : Datum) (m n : ℕ)
      → EachTook M (route_by r) 0 cs q x vs m → TakesSample B e (pair_samples q (collect r (functions_of cs) q)) (x.0, pair x.1 (list (list_of vs))) w n
      → event_in w ≡ None → TakesSample (StandsVia (PSwitchStands r M B t)) (counted_p_switch r cs e t) q x (list (list_of vs)) (suc (m + n))
  p_switch_took {M} {B} vs w m n tm te h =
      let quiet : Quiet (together r cs) e (IsCounted-together r cs a) ce (λ c p d. t c (counted_resume_each r 0 cs p d)) q x i B (list (list_of vs))
      (suc (m + n)) =
      watch_quiet (together r cs) e (IsCounted-together r cs a) ce (λ c p d. t c (counted_resume_each r 0 cs p d)) q x i {B = B} (list (list_of vs)) w m n
      (answer-together vs tm.answered) (tm.counted ∙ tally-route r 0 cs a q x) te h in
      record {
        stands = Via-here (counted_p_switch r cs e t) (q ++ x ∷ [])
            (record { cs = cs; e = e; is_e = ce; unseen = quiet.unseen; members = tm.stand; second_part = quiet.watcher; same = refl });
        answered = quiet.answered;
        counted = quiet.counted;
      }

  pub p_switch_over_took : {M : List CountedFunction → TimedList → Type 0} {B P : CountedFunction → TimedList
      → Type 0} (vs : List Datum) (w c y : Datum) (m n k : ℕ) → IsCountedFunction (t c (counted_resume_each r 0 cs q x.0))
      → EachTook M (route_by r) 0 cs q x vs m → TakesSample B e (pair_samples q (collect r (functions_of cs) q)) (x.0, pair x.1 (list (list_of vs))) w n
      → event_in w ≡ Some c → TakesSample (StandsVia P) (t c (counted_resume_each r 0 cs q x.0)) [] x y k
      → TakesSample (StandsVia P) (counted_p_switch r cs e t) q x y (suc (m + n) + k)
  p_switch_over_took {M} {B} {P} vs w c y m n k ct tm te h tg =
      watch_over (together r cs) e (IsCounted-together r cs a) ce (λ c p d. t c (counted_resume_each r 0 cs p d)) q x i {B = B} {P = P} (list (list_of vs)) w c
      y m n k ct (answer-together vs tm.answered) (tm.counted ∙ tally-route r 0 cs a q x) te h tg
