-- `-->` and `>--` take their first sample in, and go on as what they hold.
use Rattle.std.proofs.Common.{◌≡◌, ℕ, suc, ◌<◌, List, [], ◌∷◌, ◌++◌, length, drop, refl, sym, ap, ◌∙◌, arith, length-append}
use Rattle.sample_core.specs.Datum.{Datum, unit}
use Rattle.net_meaning.specs.SignalFunction.{TimedList, last_or}
use Rattle.state_core.specs.CountedFunction.{CountedFunction, IsCountedFunction, Continues, StandsVia, TakesSample}
use Rattle.state_core.specs.CountedForms.{counted_initial_out, counted_initial_in}
use Rattle.step_core.proofs.OldCounts.{first_counted, later_counted}
use Rattle.step_core.proofs.CountedFunctions.{Via-continues}

-- with another first item, the first and the last of one, and the last of more
first-replaced : (c : Datum) (vs : List Datum) → length vs ≡ 1 → c ≡ last_or unit (c ∷ drop 1 vs)
first-replaced c [] l = refl
first-replaced c (v ∷ []) l = refl
first-replaced c (v ∷ w ∷ vs) l = absurd (omega arith)

last-replaced : (c : Datum) (vs : List Datum) → 1 < length vs → last_or unit (c ∷ drop 1 vs) ≡ last_or unit vs
last-replaced c [] l = absurd (omega arith)
last-replaced c (v ∷ []) l = absurd (omega arith)
last-replaced c (v ∷ w ∷ vs) l = refl

module _ (c : Datum) (f : CountedFunction) (cf : IsCountedFunction f) (x : ℕ × Datum) where
  length-more : (z : ℕ × Datum) (r : TimedList) (y : ℕ × Datum) → length (f.visits (z ∷ (r ++ y ∷ []))) ≡ suc (suc (length r))
  length-more z r y = cf.is_count.counted (z ∷ (r ++ y ∷ [])) ∙ omega (arith, length-append r (y ∷ []))

  Continues-initial_out : Continues (counted_initial_out c f) (x ∷ []) f (x ∷ [])
  Continues-initial_out = record {
    answers = λ r y.
        let more : TimedList = x ∷ (r ++ y ∷ []) in
        let l : length (f.function more) ≡ length more = cf.is_signal_function.sized more in
        last-replaced c (f.function more) (omega (arith, length-append r (y ∷ [])));
    tallies = λ r y. later_counted (f.visits (x ∷ (r ++ y ∷ []))) (omega (arith, length-more x r y));
  }

  -- `-->`: its part starts, and its constant is put out
  pub initial_out_took : {P : CountedFunction → TimedList → Type 0} (v : Datum) (n : ℕ) → TakesSample (StandsVia P) f [] x v n
      → TakesSample (StandsVia P) (counted_initial_out c f) [] x c (suc n)
  initial_out_took {P} v n t = record {
    stands = Via-continues (counted_initial_out c f) f (x ∷ []) (x ∷ []) Continues-initial_out t.stands;
    answered = first-replaced c (f.function (x ∷ [])) (cf.is_signal_function.sized (x ∷ []));
    counted = ap suc t.counted ∙ sym (first_counted (f.visits (x ∷ [])) (cf.is_count.counted (x ∷ [])));
  }

  Continues-initial_in : Continues (counted_initial_in c f) (x ∷ []) f ((x.0, c) ∷ [])
  Continues-initial_in = record {
    answers = λ r y. refl;
    tallies = λ r y. later_counted (f.visits ((x.0, c) ∷ (r ++ y ∷ []))) (omega (arith, length-more (x.0, c) r y));
  }

  -- `>--`: its part starts on its constant
  pub initial_in_took : {P : CountedFunction → TimedList → Type 0} (y : Datum) (n : ℕ) → TakesSample (StandsVia P) f [] (x.0, c) y n
      → TakesSample (StandsVia P) (counted_initial_in c f) [] x y (suc n)
  initial_in_took {P} y n t = record {
    stands = Via-continues (counted_initial_in c f) f (x ∷ []) ((x.0, c) ∷ []) Continues-initial_in t.stands;
    answered = t.answered;
    counted = ap suc t.counted ∙ sym (first_counted (f.visits ((x.0, c) ∷ [])) (cf.is_count.counted ((x.0, c) ∷ [])));
  }
