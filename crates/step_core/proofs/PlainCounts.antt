-- `arr`, `>>>`, `first` and `loopPre` take a sample in where their parts do.
use Rattle.std.proofs.Common.{◌≡◌, ℕ, suc, ◌+◌, ◌<◌, List, [], ◌∷◌, ◌++◌, map, length, refl, sym, ap, ap₂, ◌∙◌, arith, length-append, subst}
use Rattle.std.proofs.lemmas.List.{map_push, length-map}
use Rattle.sample_core.specs.Datum.{Datum, left, right, pair}
use Rattle.net_meaning.specs.SignalFunction.{TimedList, with_values, each_value, last_or, IsSignalFunction, answer}
use Rattle.state_core.specs.Visits.{VisitCounts, ones, add_counts}
use Rattle.state_core.specs.CountedFunction.{CountedFunction, IsCountedFunction, StandsVia, TakesSample, visits_at}
use Rattle.state_core.specs.CountedForms.{counted_arr, counted_seq, counted_first, counted_loop}
use Rattle.state_core.specs.StandsByForm.{ArrStands, SeqStands, FirstStands, LoopStands}
use Rattle.net_meaning.proofs.Zips.{length-zip_with}
use Rattle.net_meaning.proofs.Feedback.{fed, length-fed}
use Rattle.net_meaning.proofs.Steps.{last_or-push, signal-push}
use Rattle.net_meaning.proofs.PlainSteps.{answer-map, answer-sequence, answer-on_left, answer-feedback, push_with_values, fed_next, fed_push}
use Rattle.step_core.proofs.CountedFunctions.{Via-here, counts-some, tally-and_one, tally-added, length-added}

pub tally-ones : (p : TimedList) (x : ℕ × Datum) → visits_at ones p x ≡ 1
tally-ones p x = ap (last_or 0) (map_push (λ y. 1) p x) ∙ last_of_numbers (map (λ y. 1) p)
  where
    last_of_numbers : (ns : List ℕ) → last_or 0 (ns ++ 1 ∷ []) ≡ 1
    last_of_numbers ns = last_or-push 0 ns 1

pub arr_took : (h : Datum → Datum) (q : TimedList) (x : ℕ × Datum) → TakesSample (StandsVia (ArrStands h)) (counted_arr h) q x (h x.1) 1
arr_took h q x = record {
  stands = Via-here (counted_arr h) (q ++ x ∷ []) (record { same = refl });
  answered = sym (answer-map h q x);
  counted = sym (tally-ones q x);
}

pub seq_took : {A B : CountedFunction → TimedList → Type 0} (f g : CountedFunction) (q : TimedList) (x : ℕ × Datum) (v y : Datum) (m n : ℕ)
    → IsCountedFunction f → IsCountedFunction g → TakesSample A f q x v m → TakesSample B g (with_values q (f.function q)) (x.0, v) y n
    → TakesSample (StandsVia (SeqStands A B)) (counted_seq f g) q x y (suc (m + n))
seq_took {A} {B} f g q x v y m n cf cg tf tg =
    let sf : IsSignalFunction f.function = cf.is_signal_function in
    let z : ℕ × Datum = (x.0, answer f.function q x) in
    let mid : TimedList = with_values q (f.function q) in
    let seen : with_values (q ++ x ∷ []) (f.function (q ++ x ∷ [])) ≡ mid ++ z ∷ [] = push_with_values f.function sf q x in
    let tg' : TakesSample B g mid z y n = subst (λ w. TakesSample B g mid (x.0, w) y n) tf.answered tg in
    let w : VisitCounts = λ xs. g.visits (with_values xs (f.function xs)) in
    let more : TimedList = q ++ x ∷ [] in
    let lf : length (f.visits more) ≡ length more = cf.is_count.counted more in
    let lg : length (w more) ≡ length more = cg.is_count.counted (with_values more (f.function more))
    ∙ length-zip_with _ more (f.function more) (sf.sized more) in
    let same : length (w more) ≡ length (f.visits more) = lg ∙ sym lf in
    let some : 0 < length (f.visits more) = counts-some cf.heaviest f.visits cf.is_count q x in
    record {
      stands = Via-here (counted_seq f g) more
          (record { f = f; g = g; is_f = cf; is_g = cg; first_part = tf.stands; second_part = subst (B g) (sym seen) tg'.stands; same = refl });
      answered = tg'.answered ∙ sym (answer-sequence f.function g.function sf q x);
      counted =
          ap suc (ap₂ (λ i j. i + j) tf.counted (tg'.counted ∙ ap (λ xs. last_or 0 (g.visits xs)) (sym seen)) ∙ sym (tally-added f.visits w q x same))
          ∙ sym (tally-and_one (λ xs. add_counts (f.visits xs) (w xs)) q x
          (let l : length (add_counts (f.visits more) (w more)) ≡ length (f.visits more) = length-added f.visits w more same in omega arith));
    }

pub first_took : {A : CountedFunction → TimedList → Type 0} (f : CountedFunction) (q : TimedList) (x : ℕ × Datum) (v : Datum) (n : ℕ) → IsCountedFunction f
    → TakesSample A f (each_value left q) (x.0, left x.1) v n → TakesSample (StandsVia (FirstStands A)) (counted_first f) q x (pair v (right x.1)) (suc n)
first_took {A} f q x v n cf tf =
    let more : TimedList = q ++ x ∷ [] in
    let seen : each_value left more ≡ each_value left q ++ (x.0, left x.1) ∷ [] = map_push (λ y. (y.0, left y.1)) q x in
    let w : VisitCounts = λ xs. f.visits (each_value left xs) in
    let l : length (w more) ≡ length more = cf.is_count.counted (each_value left more) ∙ length-map more _ in
    record {
      stands = Via-here (counted_first f) more (record { f = f; is_f = cf; first_part = subst (A f) (sym seen) tf.stands; same = refl });
      answered = ap (λ u. pair u (right x.1)) tf.answered ∙ sym (answer-on_left f.function cf.is_signal_function q x);
      counted =
          ap suc (tf.counted ∙ ap (λ xs. last_or 0 (f.visits xs)) (sym seen))
          ∙ sym (tally-and_one w q x (omega (arith, length-append q (x ∷ []))));
    }

pub loop_took : {A : CountedFunction → TimedList → Type 0} (c : Datum) (f : CountedFunction) (q : TimedList) (x : ℕ × Datum) (u v : Datum) (n : ℕ)
    → IsCountedFunction f → u ≡ fed_next c f.function q → TakesSample A f (fed c f.function q) (x.0, pair x.1 u) v n
    → TakesSample (StandsVia (LoopStands (right v) A)) (counted_loop c f) q x (left v) (suc n)
loop_took {A} c f q x u v n cf e tf =
    let more : TimedList = q ++ x ∷ [] in
    let sf : IsSignalFunction f.function = cf.is_signal_function in
    let z : ℕ × Datum = (x.0, pair x.1 (fed_next c f.function q)) in
    let tf' : TakesSample A f (fed c f.function q) z v n = subst (λ w. TakesSample A f (fed c f.function q) (x.0, pair x.1 w) v n) e tf in
    let seen : fed c f.function more ≡ fed c f.function q ++ z ∷ [] = fed_push c f.function sf q x in
    let w : VisitCounts = λ xs. f.visits (fed c f.function xs) in
    let l : length (w more) ≡ length more = cf.is_count.counted (fed c f.function more) ∙ length-fed c f.function sf more in
    let next : fed_next c f.function more ≡ right (answer f.function (fed c f.function q) z) =
    ap (λ ys. last_or c (map right (f.function ys))) seen
    ∙ ap (λ vs. last_or c (map right vs)) (signal-push f.function sf (fed c f.function q) z)
    ∙ ap (last_or c) (map_push right (f.function (fed c f.function q)) (answer f.function (fed c f.function q) z))
    ∙ last_or-push c (map right (f.function (fed c f.function q))) (right (answer f.function (fed c f.function q) z)) in
    record {
      stands = Via-here (counted_loop c f) more
          (record { z = c; f = f; is_f = cf; fed_next = ap right tf'.answered ∙ sym next; first_part = subst (A f) (sym seen) tf'.stands; same = refl });
      answered = ap left tf'.answered ∙ sym (answer-feedback c f.function sf q x);
      counted =
          ap suc (tf'.counted ∙ ap (λ xs. last_or 0 (f.visits xs)) (sym seen))
          ∙ sym (tally-and_one w q x (omega (arith, length-append q (x ∷ []))));
    }
