-- How counted functions go on, and the visits of one sample more.
use Rattle.std.proofs.Common.{◌≡◌, ℕ, suc, ◌+◌, ◌<◌, List, [], ◌∷◌, ◌++◌, length, refl, sym, ap, ◌∙◌, arith, append_assoc, append-nil, length-append, subst}
use Rattle.sample_core.specs.Datum.{Datum}
use Rattle.net_meaning.specs.SignalFunction.{TimedList, answer}
use Rattle.state_core.specs.Visits.{IsCount, VisitCounts, add_counts, and_one}
use Rattle.state_core.specs.CountedFunction.{CountedFunction, Continues, StandsVia, TakesSample, visits_at}
use Rattle.step_core.proofs.VisitSteps.{last-added, last-and_one}

pub Continues-refl : (c : CountedFunction) (p : TimedList) → Continues c p c p
Continues-refl c p = record { answers = λ r x. refl; tallies = λ r x. refl }

pub Continues-trans : (c d e : CountedFunction) (p q r : TimedList) → Continues c p d q → Continues d q e r → Continues c p e r
Continues-trans c d e p q r k l = record { answers = λ s x. k.answers s x ∙ l.answers s x; tallies = λ s x. k.tallies s x ∙ l.tallies s x }

pub Continues-push : (c d : CountedFunction) (p q : TimedList) (x : ℕ × Datum) → Continues c p d q → Continues c (p ++ x ∷ []) d (q ++ x ∷ [])
Continues-push c d p q x k = record {
  answers = λ r y. ap (λ s. answer c.function s y) (append_assoc p (x ∷ []) r) ∙ k.answers (x ∷ r) y
      ∙ ap (λ s. answer d.function s y) (sym (append_assoc q (x ∷ []) r));
  tallies = λ r y. ap (λ s. visits_at c.visits s y) (append_assoc p (x ∷ []) r) ∙ k.tallies (x ∷ r) y
      ∙ ap (λ s. visits_at d.visits s y) (sym (append_assoc q (x ∷ []) r));
}

pub answer-continues : (c d : CountedFunction) (p q : TimedList) (x : ℕ × Datum) → Continues c p d q → answer c.function p x ≡ answer d.function q x
answer-continues c d p q x k = ap (λ s. answer c.function s x) (sym (append-nil p)) ∙ k.answers [] x ∙ ap (λ s. answer d.function s x) (append-nil q)

pub tally-continues : (c d : CountedFunction) (p q : TimedList) (x : ℕ × Datum) → Continues c p d q → visits_at c.visits p x ≡ visits_at d.visits q x
tally-continues c d p q x k = ap (λ s. visits_at c.visits s x) (sym (append-nil p)) ∙ k.tallies [] x ∙ ap (λ s. visits_at d.visits s x) (append-nil q)

pub Via-here : {P : CountedFunction → TimedList → Type 0} (c : CountedFunction) (p : TimedList) → P c p → StandsVia P c p
Via-here c p h = record { other = c; past = p; holds = h; goes_on = Continues-refl c p }

pub Via-continues : {P : CountedFunction → TimedList → Type 0} (c d : CountedFunction) (p q : TimedList) → Continues c p d q → StandsVia P d q → StandsVia P c p
Via-continues c d p q k v = record { other = v.other; past = v.past; holds = v.holds; goes_on = Continues-trans c d v.other p q v.past k v.goes_on }

-- what is taken in by a counted function is taken in by one that goes on as it
pub Took-continues : {P : CountedFunction → TimedList → Type 0} (c d : CountedFunction) (p q : TimedList) (x : ℕ × Datum) (y : Datum) (n : ℕ)
    → Continues c p d q → TakesSample (StandsVia P) d q x y n → TakesSample (StandsVia P) c p x y n
Took-continues c d p q x y n k t = record {
  stands = Via-continues c d (p ++ x ∷ []) (q ++ x ∷ []) (Continues-push c d p q x k) t.stands;
  answered = t.answered ∙ sym (answer-continues c d p q x k);
  counted = t.counted ∙ sym (tally-continues c d p q x k);
}

-- the same of one that goes on as what equals it
pub Took-equal : {P : CountedFunction → TimedList → Type 0} (c d e : CountedFunction) (p q : TimedList) (x : ℕ × Datum) (y : Datum) (n : ℕ)
    → Continues c p d q → d ≡ e → TakesSample (StandsVia P) e q x y n → TakesSample (StandsVia P) c p x y n
Took-equal {P} c d e p q x y n k i t = Took-continues c d p q x y n k (subst (λ f. TakesSample (StandsVia P) f q x y n) (sym i) t)

-- a sample more is a count more
pub counts-some : (w : ℕ) (v : VisitCounts) → IsCount w v → (p : TimedList) (x : ℕ × Datum) → 0 < length (v (p ++ x ∷ []))
counts-some w v cv p x = let l : length (v (p ++ x ∷ [])) ≡ length (p ++ x ∷ []) = cv.counted (p ++ x ∷ []) in omega (arith, length-append p (x ∷ []))

pub tally-and_one : (v : VisitCounts) (p : TimedList) (x : ℕ × Datum) → 0 < length (v (p ++ x ∷ []))
    → visits_at (λ xs. and_one (v xs)) p x ≡ suc (visits_at v p x)
tally-and_one v p x l = last-and_one (v (p ++ x ∷ [])) l

pub tally-added : (v w : VisitCounts) (p : TimedList) (x : ℕ × Datum) → length (w (p ++ x ∷ [])) ≡ length (v (p ++ x ∷ []))
    → visits_at (λ xs. add_counts (v xs) (w xs)) p x ≡ visits_at v p x + visits_at w p x
tally-added v w p x l = last-added (v (p ++ x ∷ [])) (w (p ++ x ∷ [])) l

pub length-added : (v w : VisitCounts) (xs : TimedList) → length (w xs) ≡ length (v xs) → length (add_counts (v xs) (w xs)) ≡ length (v xs)
length-added v w xs l = go (v xs) (w xs) l
  where
    go : (ms ns : List ℕ) → length ns ≡ length ms → length (add_counts ms ns) ≡ length ms
    go [] [] e = refl
    go [] (n ∷ ns) e = refl
    go (m ∷ ms) [] e = absurd (omega arith)
    go (m ∷ ms) (n ∷ ns) e = let e' : length ns ≡ length ms = omega arith in ap suc (go ms ns e')
