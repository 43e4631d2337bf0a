-- Switches take a sample in as their parts do, or as what takes over.
use Rattle.std.proofs.Common.{◌≡◌, ℕ, suc, ◌+◌, ◌<◌, List, [], ◌∷◌, ◌++◌, length, take, drop, refl, sym, ap, ap₂, ◌∙◌, arith, Option, Some, None, append_assoc, length-append, length-drop, subst}
use Rattle.std.proofs.lemmas.List.{take_at, drop_at}
use Rattle.sample_core.specs.Datum.{Datum, event, left, right, pair}
use Rattle.net_tree.specs.Network.{Timing, at_once, delayed}
use Rattle.net_meaning.specs.SignalFunction.{TimedList, SignalFunction, last_or, first_event, step_of, lefts, rights, watch, pair_samples, resume, IsSignalFunction, answer, event_in, heard}
use Rattle.state_core.specs.Visits.{VisitCounts, both_at_first, switch_counts, and_one, add_counts}
use Rattle.state_core.specs.CountedFunction.{CountedFunction, IsCountedFunction, Continues, StandsVia, TakesSample, visits_at}
use Rattle.state_core.specs.CountedForms.{counted_switch_at, counted_switch, counted_watch, counted_k_switch, counted_resume}
use Rattle.state_core.specs.StandsByForm.{SwitchStands, KSwitchStands}
use Rattle.net_meaning.proofs.Zips.{length-zip_with}
use Rattle.net_meaning.proofs.Events.{IsPlain}
use Rattle.net_meaning.proofs.Plain.{IsSignal-watching}
use Rattle.net_meaning.proofs.Switches.{late, lately, switching-is, IsSignal-lefts, IsSignal-rights, IsSignal-late}
use Rattle.step_core.proofs.VisitSums.{IsCount-and_one, IsCount-added, IsCount-beside}
use Rattle.net_meaning.proofs.PlainSteps.{answer-after, answer-watching, push_pair_samples}
use Rattle.net_meaning.proofs.SwitchSteps.{quiet_push, answer_before, event_seen, GoesOn, GoesOn-switch_at, answer-first, answer-later, answer-late_first, answer-late, answer-resume_first}
use Rattle.net_meaning.proofs.Resumed.{IsSignal-resume}
use Rattle.step_core.proofs.VisitSteps.{last-behind, last-later}
use Rattle.step_core.proofs.CountedFunctions.{Via-here, Via-continues, counts-some, tally-and_one, tally-added, length-added}

abbrev unsome : Datum → Option Datum → Datum
unsome v None = v
unsome v (Some w) = w

pub event_is : (v c : Datum) → event_in v ≡ Some c → v ≡ event c
event_is (event d) c e = ap (λ o. event (unsome d o)) e
event_is v c e = cc

pub event_none : (v : Datum) → event_in v ≡ None → IsPlain v
event_none (event d) e = cc
event_none v e = λ vs. refl

-- the counts at the event, and after it
both-now : (a : ℕ) (ms ns : List ℕ) → length ms ≡ 1 → length ns ≡ 1 → last_or a (both_at_first ms ns) ≡ last_or 0 ms + last_or 0 ns
both-now a [] ns em en = absurd (omega arith)
both-now a (m ∷ []) [] em en = absurd (omega arith)
both-now a (m ∷ []) (n ∷ []) em en = refl
both-now a (m ∷ []) (n ∷ n' ∷ ns) em en = absurd (omega arith)
both-now a (m ∷ m' ∷ ms) ns em en = absurd (omega arith)

both-later : (a : ℕ) (ms ns : List ℕ) → 0 < length ms → 1 < length ns → last_or a (both_at_first ms ns) ≡ last_or 0 ns
both-later a [] ns em en = absurd (omega arith)
both-later a (m ∷ ms) [] em en = absurd (omega arith)
both-later a (m ∷ ms) (n ∷ []) em en = absurd (omega arith)
both-later a (m ∷ ms) (n ∷ n' ∷ ns) em en = refl

both-some : (ms ns : List ℕ) → 0 < length ms → 0 < length ns → 0 < length (both_at_first ms ns)
both-some [] ns em en = absurd (omega arith)
both-some (m ∷ ms) [] em en = absurd (omega arith)
both-some (m ∷ ms) (n ∷ ns) em en = omega arith

module _ (f : CountedFunction) (e : SignalFunction) (t : Datum → TimedList → ℕ → CountedFunction) (cf : IsCountedFunction f) (se : IsSignalFunction e) where
  pub switch_at_quiet : (p : TimedList) (x : ℕ × Datum) → first_event (e p) ≡ None → event_in (answer e p x) ≡ None → first_event (e (p ++ x ∷ [])) ≡ None
  switch_at_quiet p x i a = quiet_push f.function e (λ c p d. (t c p d).function) cf.is_signal_function se p x i (event_none (answer e p x) a)

  pub answer_quiet : (p : TimedList) (x : ℕ × Datum) → first_event (e (p ++ x ∷ [])) ≡ None
      → answer (counted_switch_at f e t).function p x ≡ answer f.function p x
  answer_quiet p x i = answer_before f.function e (λ c p d. (t c p d).function) cf.is_signal_function se p x i

  pub tally_quiet : (p : TimedList) (x : ℕ × Datum) → first_event (e (p ++ x ∷ [])) ≡ None
      → visits_at (counted_switch_at f e t).visits p x ≡ visits_at f.visits p x
  tally_quiet p x i =
      let xs : TimedList = p ++ x ∷ [] in
      ap (λ o. last_or 0 (switch_counts o (f.visits xs) (λ n c. (t c (take n xs) (step_of (drop n xs))).visits (drop n xs)))) i

  -- the counts from the event on
  counts_from : (p : TimedList) (x : ℕ × Datum) (c : Datum) (rest : TimedList) → first_event (e p) ≡ None → answer e p x ≡ event c
      → (counted_switch_at f e t).visits (p ++ x ∷ rest) ≡ take (length p) (f.visits (p ++ x ∷ rest))
      ++ both_at_first (drop (length p) (f.visits (p ++ x ∷ rest))) ((t c p x.0).visits (x ∷ rest))
  counts_from p x c rest i a =
      let xs : TimedList = p ++ x ∷ rest in
      let n : ℕ = length p in
      let ns : List ℕ = f.visits xs in
      ap (λ o. switch_counts o ns (λ n c. (t c (take n xs) (step_of (drop n xs))).visits (drop n xs)))
      (event_seen f.function e (λ c p d. (t c p d).function) cf.is_signal_function se p x c rest i a)
      ∙ ap (λ r. take n ns ++ both_at_first (drop n ns) ((t c (take n xs) (step_of r)).visits r)) (drop_at p (x ∷ rest) n refl)
      ∙ ap (λ q. take n ns ++ both_at_first (drop n ns) ((t c q x.0).visits (x ∷ rest))) (take_at p (x ∷ rest) n refl)

  length-late : (p : TimedList) (x : ℕ × Datum) (rest : TimedList) → length (drop (length p) (f.visits (p ++ x ∷ rest))) ≡ suc (length rest)
  length-late p x rest =
      let xs : TimedList = p ++ x ∷ rest in
      let l : length (f.visits xs) ≡ length xs = cf.is_count.counted xs in
      omega (arith, length-drop (length p) (f.visits xs), length-append p (x ∷ rest))

  pub Continues-fired : (p : TimedList) (x : ℕ × Datum) (c : Datum) → IsCountedFunction (t c p x.0) → first_event (e p) ≡ None → answer e p x ≡ event c
      → Continues (counted_switch_at f e t) (p ++ x ∷ []) (t c p x.0) (x ∷ [])
  Continues-fired p x c ct i a =
      let go : GoesOn (counted_switch_at f e t).function p (t c p x.0).function x =
      GoesOn-switch_at f.function e (λ c p d. (t c p d).function) cf.is_signal_function se p x c i a in
      record {
        answers = λ r y. ap (λ s. answer (counted_switch_at f e t).function s y) (append_assoc p (x ∷ []) r)
            ∙ answer-later (counted_switch_at f e t).function (t c p x.0).function ct.is_signal_function p x go r y;
        tallies = λ r y.
            let rest : TimedList = r ++ y ∷ [] in
            let xs : TimedList = p ++ x ∷ rest in
            let ms : List ℕ = drop (length p) (f.visits xs) in
            let ns : List ℕ = (t c p x.0).visits (x ∷ rest) in
            let lm : length ms ≡ suc (length rest) = length-late p x rest in
            let ln : length ns ≡ suc (length rest) = ct.is_count.counted (x ∷ rest) in
            let lr : length rest ≡ length r + 1 = length-append r (y ∷ []) in
            ap (λ s. last_or 0 ((counted_switch_at f e t).visits s)) (ap (λ s. s ++ y ∷ []) (append_assoc p (x ∷ []) r) ∙ append_assoc p (x ∷ r) (y ∷ []))
            ∙ ap (last_or 0) (counts_from p x c rest i a)
            ∙ last-behind 0 0 (take (length p) (f.visits xs)) (both_at_first ms ns) (both-some ms ns (omega arith) (omega arith))
            ∙ both-later 0 ms ns (omega arith) (omega arith);
      }

  pub answer_fired : (p : TimedList) (x : ℕ × Datum) (c : Datum) → IsCountedFunction (t c p x.0) → first_event (e p) ≡ None → answer e p x ≡ event c
      → answer (counted_switch_at f e t).function p x ≡ answer (t c p x.0).function [] x
  answer_fired p x c ct i a = answer-first (counted_switch_at f e t).function (t c p x.0).function ct.is_signal_function p x
      (GoesOn-switch_at f.function e (λ c p d. (t c p d).function) cf.is_signal_function se p x c i a)

  pub tally_fired : (p : TimedList) (x : ℕ × Datum) (c : Datum) → IsCountedFunction (t c p x.0) → first_event (e p) ≡ None → answer e p x ≡ event c
      → visits_at (counted_switch_at f e t).visits p x ≡ visits_at f.visits p x + visits_at (t c p x.0).visits [] x
  tally_fired p x c ct i a =
      let xs : TimedList = p ++ x ∷ [] in
      let ms : List ℕ = drop (length p) (f.visits xs) in
      let ns : List ℕ = (t c p x.0).visits (x ∷ []) in
      let lm : length ms ≡ 1 = length-late p x [] in
      let ln : length ns ≡ 1 = ct.is_count.counted (x ∷ []) in
      ap (last_or 0) (counts_from p x c [] i a)
      ∙ last-behind 0 0 (take (length p) (f.visits xs)) (both_at_first ms ns) (both-some ms ns (omega arith) (omega arith))
      ∙ both-now 0 ms ns lm ln
      ∙ ap (λ k. k + last_or 0 ns)
      (last-later 0 0 (length p) (f.visits xs) (let l : length (f.visits xs) ≡ length xs = cf.is_count.counted xs in omega (arith, length-append p (x ∷ []))))

  -- what took over stands for the switch
  pub switch_at_took : {P : CountedFunction → TimedList → Type 0} (p : TimedList) (x : ℕ × Datum) (c y : Datum) (m n : ℕ) → IsCountedFunction (t c p x.0)
      → first_event (e p) ≡ None → answer e p x ≡ event c → m ≡ visits_at f.visits p x → TakesSample (StandsVia P) (t c p x.0) [] x y n
      → TakesSample (StandsVia P) (counted_switch_at f e t) p x y (m + n)
  switch_at_took p x c y m n ct i a em tt' = record {
    stands = Via-continues (counted_switch_at f e t) (t c p x.0) (p ++ x ∷ []) (x ∷ []) (Continues-fired p x c ct i a) tt'.stands;
    answered = tt'.answered ∙ sym (answer_fired p x c ct i a);
    counted = ap₂ (λ i j. i + j) em tt'.counted ∙ sym (tally_fired p x c ct i a);
  }

-- the outputs of a switch's f, and the switch's own visit
abbrev pub halved : CountedFunction → CountedFunction
halved f = record { function = lefts f.function; visits = λ xs. and_one (f.visits xs) }

IsCounted-halved : (f : CountedFunction) → IsCountedFunction f → IsCountedFunction (halved f)
IsCounted-halved f cf =
    record {
      is_signal_function = IsSignal-lefts f.function cf.is_signal_function;
      heaviest = suc cf.heaviest;
      is_count =
          IsCount-and_one cf.heaviest f.visits cf.is_count;
    }

tally-halved : (f : CountedFunction) → IsCountedFunction f → (q : TimedList) (x : ℕ × Datum) (n : ℕ) → n ≡ visits_at f.visits q x
    → suc n ≡ visits_at (halved f).visits q x
tally-halved f cf q x n e = ap suc e ∙ sym (tally-and_one f.visits q x (counts-some cf.heaviest f.visits cf.is_count q x))

-- at the event's sample the answer that is heard
heard-first : (tm : Timing) (g h : SignalFunction) → IsSignalFunction g → IsSignalFunction h → (x : ℕ × Datum) (v y : Datum)
    → v ≡ answer g [] x → y ≡ answer h [] x → heard tm v y ≡ answer (late tm g h) [] x
heard-first at_once g h sg sh x v y ev ey = ey
heard-first delayed g h sg sh x v y ev ey = ev ∙ sym (answer-late_first g h sg sh x)

module _ (tm : Timing) (f : CountedFunction) (t : Datum
    → CountedFunction) (cf : IsCountedFunction f) (q : TimedList) (x : ℕ × Datum) (i : first_event (rights f.function q) ≡ None) where
  answer-right : (v : Datum) (o : Option Datum) → v ≡ answer f.function q x → event_in (right v) ≡ o → event_in (answer (rights f.function) q x) ≡ o
  answer-right v o e h = ap event_in (answer-after right f.function cf.is_signal_function q x ∙ ap right (sym e)) ∙ h

  -- what takes over, and the switch with it
  abbrev over : Datum → TimedList → ℕ → CountedFunction
  over c p d = record { function = lately tm f.function (λ c. (t c).function) c p d; visits = (t c).visits }

  switch-is : counted_switch tm f t ≡ counted_switch_at (halved f) (rights f.function) over
  switch-is = ap (λ s. let c : CountedFunction = record { function = s; visits = (counted_switch tm f t).visits } in c)
      (switching-is tm f.function (λ c. (t c).function) cf.is_signal_function)

  pub switch_took : {A : CountedFunction → TimedList → Type 0} (v : Datum) (n : ℕ) → TakesSample A f q x v n → event_in (right v) ≡ None
      → TakesSample (StandsVia (SwitchStands tm A t)) (counted_switch tm f t) q x (left v) (suc n)
  switch_took v n tf h =
      let se : IsSignalFunction (rights f.function) = IsSignal-rights f.function cf.is_signal_function in
      let ch : IsCountedFunction (halved f) = IsCounted-halved f cf in
      let i' : first_event (rights f.function (q ++ x ∷ [])) ≡ None =
      switch_at_quiet (halved f) (rights f.function) over ch se q x i (answer-right v None tf.answered h) in
      record {
        stands = Via-here (counted_switch tm f t) (q ++ x ∷ []) (record { f = f; is_f = cf; unseen = i'; first_part = tf.stands; same = refl });
        answered = ap left tf.answered ∙ sym (answer-after left f.function cf.is_signal_function q x)
            ∙ sym (answer_quiet (halved f) (rights f.function) over ch se q x i') ∙ ap (λ s. answer s.function q x) (sym switch-is);
        counted = tally-halved f cf q x n tf.counted ∙ sym (tally_quiet (halved f) (rights f.function) over ch se q x i')
            ∙ ap (λ s. visits_at s.visits q x) (sym switch-is);
      }

  -- what ran before, kept for the event's sample
  abbrev kept_back : SignalFunction
  kept_back = resume (lefts f.function) q x.0

  IsSignal-kept_back : IsSignalFunction kept_back
  IsSignal-kept_back = IsSignal-resume (lefts f.function) (IsSignal-lefts f.function cf.is_signal_function) q x.0

  pub switch_over_took : {A P : CountedFunction → TimedList → Type 0} (v c y : Datum) (m n : ℕ) → IsCountedFunction (t c) → TakesSample A f q x v m
      → event_in (right v) ≡ Some c → TakesSample (StandsVia P) (t c) [] x y n
      → TakesSample (StandsVia P) (counted_switch tm f t) q x (heard tm (left v) y) (suc m + n)
  switch_over_took {A} {P} v c y m n ct tf h tg =
      let sl : IsSignalFunction (lefts f.function) = IsSignal-lefts f.function cf.is_signal_function in
      let left_now : left v ≡ answer kept_back [] x =
      ap left tf.answered ∙ sym (answer-after left f.function cf.is_signal_function q x) ∙ sym (answer-resume_first (lefts f.function) sl q x.0 x) in
      let starts : TakesSample (StandsVia P) (over c q x.0) [] x (heard tm (left v) y) n = record {
        stands = Via-continues (over c q x.0) (t c) (x ∷ []) (x ∷ [])
            (record { answers = λ r z. answer-late tm kept_back (t c).function ct.is_signal_function x r z; tallies = λ r z. refl }) tg.stands;
        answered = heard-first tm kept_back (t c).function IsSignal-kept_back ct.is_signal_function x (left v) y left_now tg.answered;
        counted = tg.counted;
      } in
      subst (λ d. TakesSample (StandsVia P) d q x (heard tm (left v) y) (suc m + n)) (sym switch-is) (
      switch_at_took (halved f) (rights f.function) over (IsCounted-halved f cf) (IsSignal-rights f.function cf.is_signal_function) {P = P} q x c
      (heard tm (left v) y) (suc m) n
      (record {
        is_signal_function = IsSignal-late tm kept_back (t c).function IsSignal-kept_back ct.is_signal_function;
        heaviest = ct.heaviest;
        is_count =
            ct.is_count;
      }) i
      (event_is (answer (rights f.function) q x) c (answer-right v (Some c) tf.answered h)) (tally-halved f cf q x m tf.counted) starts)

module _ (f e : CountedFunction) (cf : IsCountedFunction f) (ce : IsCountedFunction e) where
  pub IsCounted-watched : IsCountedFunction (counted_watch f e)
  IsCounted-watched = record {
    is_signal_function = cf.is_signal_function;
    heaviest = suc (cf.heaviest + ce.heaviest);
    is_count = IsCount-and_one (cf.heaviest + ce.heaviest) _
        (IsCount-added cf.heaviest ce.heaviest f.visits (λ xs. e.visits (pair_samples xs (f.function xs))) cf.is_count
        (IsCount-beside ce.heaviest _ f.function cf.is_signal_function e.visits ce.is_count));
  }

  -- any switch whose event e sees on f's input and output
  module _ (over_counted : Datum → TimedList → ℕ
      → CountedFunction) (q : TimedList) (x : ℕ × Datum) (i : first_event (watch f.function e.function q) ≡ None) where
    se : IsSignalFunction (watch f.function e.function)
    se = IsSignal-watching f.function e.function cf.is_signal_function ce.is_signal_function

    pub moved : {B : CountedFunction → TimedList → Type 0} (v w : Datum) (n : ℕ) → v ≡ answer f.function q x
        → TakesSample B e (pair_samples q (f.function q)) (x.0, pair x.1 v) w n
        → TakesSample B e (pair_samples q (f.function q)) (x.0, pair x.1 (answer f.function q x)) w n
    moved {B} v w n a te = subst (λ u. TakesSample B e (pair_samples q (f.function q)) (x.0, pair x.1 u) w n) a te

    tally-watched : (m n : ℕ) → m ≡ visits_at f.visits q x → n ≡ visits_at e.visits (pair_samples q (f.function q)) (x.0, pair x.1 (answer f.function q x))
        → suc (m + n) ≡ visits_at (counted_watch f e).visits q x
    tally-watched m n em en =
        let more : TimedList = q ++ x ∷ [] in
        let w : VisitCounts = λ xs. e.visits (pair_samples xs (f.function xs)) in
        let lf : length (f.visits more) ≡ length more = cf.is_count.counted more in
        let lg : length (w more) ≡ length more = ce.is_count.counted (pair_samples more (f.function more))
        ∙ length-zip_with _ more (f.function more) (cf.is_signal_function.sized more) in
        let same : length (w more) ≡ length (f.visits more) = lg ∙ sym lf in
        let some : 0 < length (f.visits more) = counts-some cf.heaviest f.visits cf.is_count q x in
        ap suc (ap₂ (λ i j. i + j) em (en ∙ ap (λ xs. last_or 0 (e.visits xs)) (sym (push_pair_samples f.function cf.is_signal_function q x)))
        ∙ sym (tally-added f.visits w q x same))
        ∙ sym (tally-and_one (λ xs. add_counts (f.visits xs) (w xs)) q x
        (let l : length (add_counts (f.visits more) (w more)) ≡ length (f.visits more) = length-added f.visits w more same in omega arith))

    answer-watch : (w : Datum) (o : Option Datum) → w ≡ answer e.function (pair_samples q (f.function q)) (x.0, pair x.1 (answer f.function q x))
        → event_in w ≡ o → event_in (answer (watch f.function e.function) q x) ≡ o
    answer-watch w o a h = ap event_in (answer-watching f.function e.function cf.is_signal_function q x ∙ sym a) ∙ h

    -- no event yet
    pub record Quiet (B : CountedFunction → TimedList → Type 0) (v : Datum) (n : ℕ) : Type 0 where
      pub unseen : first_event (watch f.function e.function (q ++ x ∷ [])) ≡ None
      pub watcher : B e (pair_samples (q ++ x ∷ []) (f.function (q ++ x ∷ [])))
      pub answered : v ≡ answer (counted_switch_at (counted_watch f e) (watch f.function e.function) over_counted).function q x
      pub counted : n ≡ visits_at (counted_switch_at (counted_watch f e) (watch f.function e.function) over_counted).visits q x

    pub watch_quiet : {B : CountedFunction → TimedList → Type 0} (v w : Datum) (m n : ℕ) → v ≡ answer f.function q x → m ≡ visits_at f.visits q x
        → TakesSample B e (pair_samples q (f.function q)) (x.0, pair x.1 v) w n → event_in w ≡ None → Quiet B v (suc (m + n))
    watch_quiet {B} v w m n av em te h =
        let te' : TakesSample B e (pair_samples q (f.function q)) (x.0, pair x.1 (answer f.function q x)) w n = moved {B = B} v w n av te in
        let more : TimedList = q ++ x ∷ [] in
        let i' : first_event (watch f.function e.function more) ≡ None =
        switch_at_quiet (counted_watch f e) (watch f.function e.function) over_counted IsCounted-watched se q x i
        (answer-watch w None te'.answered h) in
        record {
          unseen = i';
          watcher = subst (B e) (sym (push_pair_samples f.function cf.is_signal_function q x)) te'.stands;
          answered = av ∙ sym (answer_quiet (counted_watch f e) (watch f.function e.function) over_counted IsCounted-watched se q x i');
          counted = tally-watched m n em te'.counted
              ∙ sym (tally_quiet (counted_watch f e) (watch f.function e.function) over_counted IsCounted-watched se q x i');
        }

    pub watch_over : {B P : CountedFunction → TimedList → Type 0} (v w c y : Datum) (m n k : ℕ) → IsCountedFunction (over_counted c q x.0)
        → v ≡ answer f.function q x → m ≡ visits_at f.visits q x → TakesSample B e (pair_samples q (f.function q)) (x.0, pair x.1 v) w n → event_in w ≡ Some c
        → TakesSample (StandsVia P) (over_counted c q x.0) [] x y k
        → TakesSample (StandsVia P) (counted_switch_at (counted_watch f e) (watch f.function e.function) over_counted) q x y (suc (m + n) + k)
    watch_over {B} {P} v w c y m n k ct av em te h tg =
        let te' : TakesSample B e (pair_samples q (f.function q)) (x.0, pair x.1 (answer f.function q x)) w n = moved {B = B} v w n av te in
        switch_at_took (counted_watch f e) (watch f.function e.function) over_counted IsCounted-watched se {P = P} q x c y (suc (m + n)) k ct i
        (event_is (answer (watch f.function e.function) q x) c (answer-watch w (Some c) te'.answered h)) (tally-watched m n em te'.counted) tg

  module _ (t : Datum → CountedFunction → CountedFunction) (q : TimedList) (x : ℕ × Datum) (i : first_event (watch f.function e.function q) ≡ None) where
    pub k_switch_took : {A B : CountedFunction → TimedList → Type 0} (v w : Datum) (m n : ℕ) → TakesSample A f q x v m
        → TakesSample B e (pair_samples q (f.function q)) (x.0, pair x.1 v) w n → event_in w ≡ None
        → TakesSample (StandsVia (KSwitchStands A B t)) (counted_k_switch f e t) q x v (suc (m + n))
    k_switch_took {A} {B} v w m n tf te h =
        let quiet : Quiet (λ c p d. t c (counted_resume f p d)) q x i B v (suc (m + n)) =
        watch_quiet (λ c p d. t c (counted_resume f p d)) q x i {B = B} v w m n tf.answered tf.counted te h in
        record {
          stands = Via-here (counted_k_switch f e t) (q ++ x ∷ [])
              (record { f = f; e = e; is_f = cf; is_e = ce; unseen = quiet.unseen; first_part = tf.stands; second_part = quiet.watcher; same = refl });
          answered = quiet.answered;
          counted = quiet.counted;
        }

    pub k_switch_over_took : {A B P : CountedFunction → TimedList → Type 0} (v w c y : Datum) (m n k : ℕ) → IsCountedFunction (t c (counted_resume f q x.0))
        → TakesSample A f q x v m → TakesSample B e (pair_samples q (f.function q)) (x.0, pair x.1 v) w n → event_in w ≡ Some c
        → TakesSample (StandsVia P) (t c (counted_resume f q x.0)) [] x y k → TakesSample (StandsVia P) (counted_k_switch f e t) q x y (suc (m + n) + k)
    k_switch_over_took {A} {B} {P} v w c y m n k ct tf te h tg =
        watch_over (λ c p d. t c (counted_resume f p d)) q x i {B = B} {P = P} v w c y m n k ct tf.answered tf.counted te h tg
