-- `rSwitch` and `drSwitch` take a sample in as what runs does, and at an event as what starts there
-- does.
use Rattle.std.proofs.Common.{◌≡◌, ℕ, suc, ◌+◌, ◌<◌, List, [], ◌∷◌, ◌++◌, length, take, drop, refl, sym, ap, ap₂, ◌∙◌, arith, Option, Some, None, append_assoc, append-nil, length-append, length-drop, subst}
use Rattle.std.proofs.lemmas.List.{map_push, length-map, drop-append-le}
use Rattle.sample_core.specs.Datum.{Datum, unit, event, no_event, left, pair}
use Rattle.net_tree.specs.Network.{Timing, at_once, delayed}
use Rattle.net_meaning.specs.SignalFunction.{TimedList, SignalFunction, Pieces, last_or, each_value, pieces, until, lap, each_piece, r_switch_function}
use Rattle.state_core.specs.Visits.{VisitCounts, zeros, add_counts, and_one, unheard}
use Rattle.state_core.specs.CountedFunction.{CountedFunction, IsCountedFunction, Continues, StandsVia, TakesSample}
use Rattle.state_core.specs.CountedForms.{counted_r_switch}
use Rattle.state_core.specs.StandsByForm.{Uncut, RSwitchStands}
use Rattle.step_core.specs.Stepping.{restart_in}
use Rattle.net_meaning.proofs.Zips.{length-zip_with}
use Rattle.net_meaning.proofs.Restarting.{IsUncut, until_first, own, from, from-cut, from-nil, length-restarting}
use Rattle.step_core.proofs.CausalCounts.{length-unheard}
use Rattle.step_core.proofs.VisitSteps.{last-behind, last-later, last-added, last-and_one}
use Rattle.step_core.proofs.CountedFunctions.{Via-here, Via-continues, counts-some}

abbrev uncut_or : Datum × Datum → Option (Datum × Datum) → Datum
uncut_or d None = pair d.0 (event d.1)
uncut_or d (Some e) = pair e.0 (event e.1)

pub cut_is : (v u c : Datum) → restart_in v ≡ Some (u, c) → v ≡ pair u (event c)
cut_is (pair a (event d)) u c e = ap (uncut_or (a, d)) e
cut_is v u c e = cc

pub cut_none : (v : Datum) → restart_in v ≡ None → IsUncut v
cut_none (pair a (event d)) e = cc
cut_none v e = λ d p. refl

pub Uncut-nil : Uncut []
Uncut-nil = record { one_piece = λ rest. refl }

pub Uncut-push : (q : TimedList) (x : ℕ × Datum) → Uncut q → restart_in x.1 ≡ None → Uncut (q ++ x ∷ [])
Uncut-push q x u e = record {
  one_piece = λ rest.
      let ps : Pieces = pieces rest in
      ap pieces (append_assoc q (x ∷ []) rest)
      ∙ u.one_piece (x ∷ rest)
      ∙ ap (λ qs. let r : Pieces = (each_value left q ++ qs.0, qs.1) in r) (cut_none x.1 e x.0 ps)
      ∙ ap (λ ys. let r : Pieces = (ys, ps.1) in r) (sym (append_assoc (each_value left q) ((x.0, left x.1) ∷ []) ps.0)
      ∙ ap (λ ys. ys ++ ps.0) (sym (map_push (λ y. (y.0, left y.1)) q x)));
}

none-left : {A : Type 0} (ms : List A) → length ms ≡ 1 → drop 1 ms ≡ []
none-left [] e = refl
none-left (m ∷ []) e = refl
none-left (m ∷ m' ∷ ms) e = absurd (omega arith)

first-alone : (ms : List ℕ) → length ms ≡ 1 → last_or 0 (take 1 ms) ≡ last_or 0 ms
first-alone [] e = refl
first-alone (m ∷ []) e = refl
first-alone (m ∷ m' ∷ ms) e = absurd (omega arith)

one-first : (ms zs : List ℕ) → 0 < length ms → take 1 ms ++ zs ≡ last_or 0 (take 1 ms) ∷ zs
one-first [] zs l = absurd (omega arith)
one-first (m ∷ ms) zs l = refl

added_zeros : (ms : List ℕ) (xs : TimedList) → length ms ≡ length xs → add_counts ms (zeros xs) ≡ ms
added_zeros [] [] e = refl
added_zeros [] (x ∷ xs) e = refl
added_zeros (m ∷ ms) [] e = absurd (omega arith)
added_zeros (m ∷ ms) (x ∷ xs) e =
    let e' : length ms ≡ length xs = omega arith in
    let z : m + 0 ≡ m = omega arith in
    ap₂ (λ k ks. k ∷ ks) z (added_zeros ms xs e')

-- what starts counts unheard at its first sample at most
unheard-is : (tm : Timing) (v : VisitCounts) → ((xs : TimedList) → length (v xs) ≡ length xs) → (z : ℕ × Datum) (r : TimedList)
    → unheard tm v (z ∷ r) ≡ last_or 0 (take (until tm 0) (v (z ∷ r))) ∷ zeros r
unheard-is at_once v lv z r = refl
unheard-is delayed v lv z r = one-first (v (z ∷ r)) (zeros r) (let l : length (v (z ∷ r)) ≡ suc (length r) = lv (z ∷ r) in omega arith)

-- what the parts give, outputs or counts
module _ {Y : Type 0} (tm : Timing) (f : TimedList → List Y) (t : Datum → TimedList → List Y) where
  gives_from : (q rest : TimedList) → Uncut q → r_switch_function tm f t (q ++ rest) ≡ from tm 0 f t (each_value left q) rest
  gives_from q rest u =
      ap (λ ps. f (ps.0 ++ lap tm ps.1) ++ each_piece tm t ps.1) (u.one_piece rest)
      ∙ ap (λ p. f p ++ each_piece tm t (pieces rest).1) (append_assoc (each_value left q) (pieces rest).0 (lap tm (pieces rest).1))

  uncut_gives : (q : TimedList) → Uncut q → r_switch_function tm f t q ≡ f (each_value left q)
  uncut_gives q u = ap (r_switch_function tm f t) (sym (append-nil q)) ∙ gives_from q [] u ∙ from-nil tm 0 f t (each_value left q)

  module _ (lt : (c : Datum) (xs : TimedList) → length (t c xs) ≡ length xs) (q : TimedList) (x : ℕ × Datum) (u : Uncut q) (a c : Datum)
      (e : x.1 ≡ pair a (event c)) (rest : TimedList) where
    -- what is given by one that begins with what starts at the event
    abbrev started : List Y
    started = r_switch_function tm (t c) t ((x.0, pair a no_event) ∷ rest)

    length-started : length started ≡ suc (length rest)
    length-started = length-restarting tm t lt (t c) (lt c) ((x.0, pair a no_event) ∷ rest)

    cut_gives : r_switch_function tm f t (q ++ x ∷ rest) ≡ f (each_value left q ++ own tm (x.0, a)) ++ drop (until tm 0) started
    cut_gives =
        let p : TimedList = each_value left q in
        let r : TimedList = (x.0, a) ∷ ((pieces rest).0 ++ lap tm (pieces rest).1) in
        let l : length (t c r) ≡ length r = lt c r in
        gives_from q (x ∷ rest) u
        ∙ ap (λ v. from tm 0 f t p ((x.0, v) ∷ rest)) e
        ∙ from-cut tm 0 f t p x.0 a c rest
        ∙ ap (λ vs. f (p ++ own tm (x.0, a)) ++ vs) (sym (drop-append-le (until tm 0) (t c r) (each_piece tm t (pieces rest).1) (omega (arith, until_first tm))))

    -- what starts gives the last, once it is heard
    last_started : (d : Y) → until tm 0 < suc (length rest) → last_or d (r_switch_function tm f t (q ++ x ∷ rest)) ≡ last_or d started
    last_started d l =
        ap (last_or d) cut_gives
        ∙ last-behind d d (f (each_value left q ++ own tm (x.0, a))) (drop (until tm 0) started)
        (omega (arith, length-drop (until tm 0) started, length-started))
        ∙ last-later d d (until tm 0) started (omega (arith, length-started))

module _ (tm : Timing) (t : Datum → CountedFunction) (ct : (c : Datum) → IsCountedFunction (t c)) where
  abbrev outs : Datum → SignalFunction
  outs c = (t c).function

  abbrev counts : Datum → VisitCounts
  counts c = (t c).visits

  abbrev starts : Datum → VisitCounts
  starts c = unheard tm (t c).visits

  length-starts : (c : Datum) (xs : TimedList) → length (starts c xs) ≡ length xs
  length-starts c = length-unheard tm (t c).visits (ct c).is_count.counted

  -- the visits of the last sample
  last_counts : (f : CountedFunction) → IsCountedFunction f → (xs : TimedList) → 0 < length xs → last_or 0 ((counted_r_switch tm f t).visits xs)
      ≡ suc (last_or 0 (r_switch_function tm f.visits counts xs) + last_or 0 (r_switch_function at_once zeros starts xs))
  last_counts f cf xs l =
      let ms : List ℕ = r_switch_function tm f.visits counts xs in
      let ns : List ℕ = r_switch_function at_once zeros starts xs in
      let lm : length ms ≡ length xs = length-restarting tm counts (λ c. (ct c).is_count.counted) f.visits cf.is_count.counted xs in
      let ln : length ns ≡ length xs = length-restarting at_once starts length-starts zeros (λ ys. length-map ys (λ y. 0)) xs in
      let same : length ns ≡ length ms = ln ∙ sym lm in
      last-and_one (add_counts ms ns) (omega (arith, length-zip_with (λ m n. m + n) ms ns same))
      ∙ ap suc (last-added ms ns same)

  module _ (f : CountedFunction) (cf : IsCountedFunction f) where
    module _ (q : TimedList) (x : ℕ × Datum) (u : Uncut q) where
      pub r_switch_took : {A : CountedFunction → TimedList → Type 0} (y : Datum) (n : ℕ) → restart_in x.1 ≡ None
          → TakesSample A f (each_value left q) (x.0, left x.1) y n
          → TakesSample (StandsVia (RSwitchStands tm A t)) (counted_r_switch tm f t) q x y (suc n)
      r_switch_took {A} y n e tf =
          let more : TimedList = q ++ x ∷ [] in
          let p : TimedList = each_value left q ++ (x.0, left x.1) ∷ [] in
          let u' : Uncut more = Uncut-push q x u e in
          let pushed : each_value left more ≡ p = map_push (λ y. (y.0, left y.1)) q x in
          record {
            stands = Via-here (counted_r_switch tm f t) more (record { f = f; is_f = cf; uncut = u'; first_part = subst (A f) (sym pushed) tf.stands; same = refl });
            answered = tf.answered ∙ sym (ap (last_or unit) (uncut_gives tm f.function outs more u' ∙ ap f.function pushed));
            counted = ap suc tf.counted
                ∙ sym (ap (λ ms. last_or 0 (and_one ms))
                (ap₂ add_counts (uncut_gives tm f.visits counts more u' ∙ ap f.visits pushed) (uncut_gives at_once zeros starts more u' ∙ ap zeros pushed)
                ∙ added_zeros (f.visits p) p (cf.is_count.counted p))
                ∙ last-and_one (f.visits p) (counts-some cf.heaviest f.visits cf.is_count (each_value left q) (x.0, left x.1)));
          }

      -- at an event
      module _ (a c : Datum) (e : x.1 ≡ pair a (event c)) where
        -- what starts counts as what runs, but at its first sample
        last_start : (rest : TimedList) → 0 < length rest → last_or 0 (r_switch_function at_once zeros starts (q ++ x ∷ rest))
            ≡ last_or 0 (r_switch_function at_once zeros starts ((x.0, pair a no_event) ∷ rest))
        last_start rest l =
            let r : TimedList = (pieces rest).0 ++ lap at_once (pieces rest).1 in
            let all : List ℕ = each_piece at_once starts (pieces rest).1 in
            let n : ℕ = last_or 0 (take (until tm 0) (counts c ((x.0, a) ∷ r))) in
            let ll : length (zeros ((x.0, a) ∷ r) ++ all) ≡ suc (length rest) =
            length-restarting at_once starts length-starts zeros (λ ys. length-map ys (λ y. 0)) ((x.0, pair a no_event) ∷ rest) in
            let some : 0 < length (zeros r ++ all) = omega arith in
            last_started at_once zeros starts length-starts q x u a c e rest 0 (omega arith)
            ∙ ap (λ ms. last_or 0 (ms ++ all)) (unheard-is tm (counts c) (ct c).is_count.counted (x.0, a) r)
            ∙ last-behind 0 0 (n ∷ []) (zeros r ++ all) some
            ∙ sym (last-behind 0 0 (0 ∷ []) (zeros r ++ all) some)

        -- at the event itself
        first_start : last_or 0 (r_switch_function at_once zeros starts (q ++ x ∷ [])) ≡ last_or 0 (take (until tm 0) (counts c ((x.0, a) ∷ [])))
        first_start = last_started at_once zeros starts length-starts q x u a c e [] 0 (omega arith)
            ∙ ap (λ ms. last_or 0 (ms ++ [])) (unheard-is tm (counts c) (ct c).is_count.counted (x.0, a) [])

        last_tally : (rest : TimedList) → 0 < length rest
            → last_or 0 ((counted_r_switch tm f t).visits (q ++ x ∷ rest)) ≡ last_or 0 ((counted_r_switch tm (t c) t).visits ((x.0, pair a no_event) ∷ rest))
        last_tally rest l =
            last_counts f cf (q ++ x ∷ rest) (omega (arith, length-append q (x ∷ rest)))
            ∙ ap suc
            (ap₂ (λ m n. m + n)
            (last_started tm f.visits counts (λ c. (ct c).is_count.counted) q x u a c e rest 0 (omega (arith, until_first tm)))
            (last_start rest l))
            ∙ sym (last_counts (t c) (ct c) ((x.0, pair a no_event) ∷ rest) (omega arith))

        Continues-cut : Continues (counted_r_switch tm f t) (q ++ x ∷ []) (counted_r_switch tm (t c) t) ((x.0, pair a no_event) ∷ [])
        Continues-cut = record {
          answers = λ r y.
              ap (λ s. last_or unit ((counted_r_switch tm f t).function s)) (ap (λ s. s ++ y ∷ []) (append_assoc q (x ∷ []) r) ∙ append_assoc q (x ∷ r) (y ∷ []))
              ∙ last_started tm f.function outs (λ c. (ct c).is_signal_function.sized) q x u a c e (r ++ y ∷ []) unit
              (omega (arith, until_first tm, length-append r (y ∷ [])));
          tallies = λ r y.
              ap (λ s. last_or 0 ((counted_r_switch tm f t).visits s)) (ap (λ s. s ++ y ∷ []) (append_assoc q (x ∷ []) r) ∙ append_assoc q (x ∷ r) (y ∷ []))
              ∙ last_tally (r ++ y ∷ []) (omega (arith, length-append r (y ∷ [])));
        }

        stands_on : {B : CountedFunction → TimedList → Type 0} → B (t c) ((x.0, a) ∷ [])
            → StandsVia (RSwitchStands tm B t) (counted_r_switch tm f t) (q ++ x ∷ [])
        stands_on b = Via-continues (counted_r_switch tm f t) (counted_r_switch tm (t c) t) (q ++ x ∷ []) ((x.0, pair a no_event) ∷ []) Continues-cut
            (Via-here (counted_r_switch tm (t c) t) ((x.0, pair a no_event) ∷ [])
            (record { f = t c; is_f = ct c; uncut = Uncut-push [] (x.0, pair a no_event) Uncut-nil refl; first_part = b; same = refl }))

-- at its event's sample alone `drSwitch` gives what ran before
alone : {Y : Type 0} (f : TimedList → List Y) (t : Datum → TimedList → List Y) → ((c : Datum) (xs : TimedList) → length (t c xs) ≡ length xs)
    → (q : TimedList) (x : ℕ × Datum) → Uncut q → (a c : Datum) → x.1 ≡ pair a (event c)
    → r_switch_function delayed f t (q ++ x ∷ []) ≡ f (each_value left q ++ (x.0, a) ∷ [])
alone f t lt q x u a c e =
    let p : TimedList = each_value left q ++ (x.0, a) ∷ [] in
    cut_gives delayed f t lt q x u a c e []
    ∙ ap (λ vs. f p ++ vs) (none-left (r_switch_function delayed (t c) t ((x.0, pair a no_event) ∷ [])) (length-started delayed f t lt q x u a c e []))
    ∙ append-nil (f p)

module _ (t : Datum → CountedFunction) (ct : (c : Datum) → IsCountedFunction (t c)) (f : CountedFunction) (cf : IsCountedFunction f) (q : TimedList)
    (x : ℕ × Datum) (u : Uncut q) (a c : Datum) (e : x.1 ≡ pair a (event c)) where
  some : 0 < length (q ++ x ∷ [])
  some = omega (arith, length-append q (x ∷ []))

  -- `rSwitch`: what starts is heard
  pub cut_at_once_took : {B : CountedFunction → TimedList → Type 0} (y : Datum) (n : ℕ) → TakesSample B (t c) [] (x.0, a) y n
      → TakesSample (StandsVia (RSwitchStands at_once B t)) (counted_r_switch at_once f t) q x y (suc n)
  cut_at_once_took {B} y n tg =
      let vs : List Datum = (t c).function ((x.0, a) ∷ []) in
      let ns : List ℕ = (t c).visits ((x.0, a) ∷ []) in
      let none : last_or 0 ns + 0 ≡ last_or 0 ns = omega arith in
      record {
        stands = stands_on at_once t ct f cf q x u a c e {B = B} tg.stands;
        answered = tg.answered
            ∙ sym (last_started at_once f.function (λ c. (t c).function) (λ c. (ct c).is_signal_function.sized) q x u a c e [] unit (omega arith)
            ∙ ap (last_or unit) (append-nil vs));
        counted = ap suc tg.counted
            ∙ sym (last_counts at_once t ct f cf (q ++ x ∷ []) some
            ∙ ap suc
            (ap₂ (λ m n. m + n)
            (last_started at_once f.visits (λ c. (t c).visits) (λ c. (ct c).is_count.counted) q x u a c e [] 0 (omega arith) ∙ ap (last_or 0) (append-nil ns))
            (first_start at_once t ct f cf q x u a c e) ∙ none));
      }

  -- `drSwitch`: what ran before is heard, and what starts goes on
  pub cut_delayed_took : {A B : CountedFunction → TimedList → Type 0} (v y : Datum) (m n : ℕ) → TakesSample A f (each_value left q) (x.0, a) v m
      → TakesSample B (t c) [] (x.0, a) y n → TakesSample (StandsVia (RSwitchStands delayed B t)) (counted_r_switch delayed f t) q x v (suc (m + n))
  cut_delayed_took {A} {B} v y m n tf tg =
      let ns : List ℕ = (t c).visits ((x.0, a) ∷ []) in
      let ln : length ns ≡ 1 = (ct c).is_count.counted ((x.0, a) ∷ []) in
      record {
        stands = stands_on delayed t ct f cf q x u a c e {B = B} tg.stands;
        answered = tf.answered ∙ sym (ap (last_or unit) (alone f.function (λ c. (t c).function) (λ c. (ct c).is_signal_function.sized) q x u a c e));
        counted = ap suc
            (ap₂ (λ m n. m + n)
            (tf.counted ∙ sym (ap (last_or 0) (alone f.visits (λ c. (t c).visits) (λ c. (ct c).is_count.counted) q x u a c e)))
            (tg.counted ∙ sym (first_start delayed t ct f cf q x u a c e ∙ first-alone ns ln)))
            ∙ sym (last_counts delayed t ct f cf (q ++ x ∷ []) some);
      }
