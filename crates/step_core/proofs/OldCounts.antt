-- A frozen network takes its first resumed sample in.
use Rattle.std.proofs.Common.{◌≡◌, ℕ, suc, ◌+◌, ◌<◌, List, [], ◌∷◌, ◌++◌, length, refl, sym, ap, ◌∙◌, arith, length-append, length-drop, append_assoc}
use Rattle.sample_core.specs.Datum.{Datum}
use Rattle.net_meaning.specs.SignalFunction.{TimedList, last_or, answer}
use Rattle.state_core.specs.Visits.{first_and_one, resume_counts}
use Rattle.state_core.specs.CountedFunction.{CountedFunction, IsCountedFunction, Continues, StandsVia, TakesSample}
use Rattle.state_core.specs.CountedForms.{counted_resume}
use Rattle.net_meaning.proofs.SwitchSteps.{answer-resume_first, answer-resume}
use Rattle.step_core.proofs.VisitSteps.{last-resume_counts}
use Rattle.step_core.proofs.CountedFunctions.{Via-continues}

-- the counted function of an `(old k)`, by that of the frozen network
abbrev pub old_counted : CountedFunction → CountedFunction
old_counted o = record { function = o.function; visits = λ xs. first_and_one (o.visits xs) }

pub first_counted : (ns : List ℕ) → length ns ≡ 1 → last_or 0 (first_and_one ns) ≡ suc (last_or 0 ns)
first_counted [] l = absurd (omega arith)
first_counted (n ∷ []) l = refl
first_counted (n ∷ m ∷ ns) l = absurd (omega arith)

pub later_counted : (ns : List ℕ) → 1 < length ns → last_or 0 (first_and_one ns) ≡ last_or 0 ns
later_counted [] l = absurd (omega arith)
later_counted (n ∷ []) l = absurd (omega arith)
later_counted (n ∷ m ∷ ns) l = refl

module _ (c : CountedFunction) (q : TimedList) (d : ℕ) (ci : IsCountedFunction c) where
  length-resume : (x : ℕ × Datum) (rest : TimedList) → length (resume_counts c.visits q d (x ∷ rest)) ≡ suc (length rest)
  length-resume x rest =
      let ys : TimedList = q ++ (d, x.1) ∷ rest in
      let l : length (c.visits ys) ≡ length ys = ci.is_count.counted ys in
      omega (arith, length-drop (length q) (c.visits ys), length-append q ((d, x.1) ∷ rest))

  last_resume : (x : ℕ × Datum) (rest : TimedList) → last_or 0 (resume_counts c.visits q d (x ∷ rest)) ≡ last_or 0 (c.visits (q ++ (d, x.1) ∷ rest))
  last_resume x rest =
      let ys : TimedList = q ++ (d, x.1) ∷ rest in
      let l : length (c.visits ys) ≡ length ys = ci.is_count.counted ys in
      last-resume_counts c.visits q d x rest (omega (arith, length-append q ((d, x.1) ∷ rest)))

  Continues-old : (x : ℕ × Datum) → Continues (old_counted (counted_resume c q d)) ([] ++ x ∷ []) c (q ++ (d, x.1) ∷ [])
  Continues-old x = record {
    answers = λ r y. answer-resume c.function ci.is_signal_function q d x r y ∙ ap (λ s. answer c.function s y) (sym (append_assoc q ((d, x.1) ∷ []) r));
    tallies = λ r y.
        let rest : TimedList = r ++ y ∷ [] in
        let l : length (resume_counts c.visits q d (x ∷ rest)) ≡ suc (length rest) = length-resume x rest in
        let lr : length rest ≡ length r + 1 = length-append r (y ∷ []) in
        later_counted (resume_counts c.visits q d (x ∷ rest)) (omega arith)
        ∙ last_resume x rest
        ∙ ap (λ ys. last_or 0 (c.visits ys)) (sym (ap (λ s. s ++ y ∷ []) (append_assoc q ((d, x.1) ∷ []) r) ∙ append_assoc q ((d, x.1) ∷ r) (y ∷ [])));
  }

  -- what steps on the kept step stands for the `(old k)`
  pub resume_took : {P : CountedFunction → TimedList → Type 0} (x : ℕ × Datum) (y : Datum) (n : ℕ) → TakesSample (StandsVia P) c q (d, x.1) y n
      → TakesSample (StandsVia P) (old_counted (counted_resume c q d)) [] x y (suc n)
  resume_took {P} x y n t = record {
    stands = Via-continues (old_counted (counted_resume c q d)) c ([] ++ x ∷ []) (q ++ (d, x.1) ∷ []) (Continues-old x) t.stands;
    answered = t.answered ∙ sym (answer-resume_first c.function ci.is_signal_function q d x);
    counted = ap suc (t.counted ∙ sym (last_resume x [])) ∙ sym (first_counted (resume_counts c.visits q d (x ∷ [])) (length-resume x []));
  }
