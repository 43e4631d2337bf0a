-- A signal function with the visits of each of its samples, and how counted functions go on.
use Rattle.std.specs.Prelude.{◌≡◌, ℕ, [], ◌∷◌, ◌++◌}
use Rattle.sample_core.specs.Datum.{Datum}
use Rattle.net_meaning.specs.SignalFunction.{TimedList, SignalFunction, last_or, IsSignalFunction, answer}
use Rattle.state_core.specs.Visits.{IsCount, VisitCounts}

-- what a network outputs, and how many nodes each of its samples visits
pub record CountedFunction : Type 0 where
  pub function : SignalFunction
  pub visits : VisitCounts

-- the visits of one sample more
abbrev pub visits_at : VisitCounts → TimedList → ℕ × Datum → ℕ
visits_at v p x = last_or 0 (v (p ++ x ∷ []))

-- signal function and counts go by the samples so far, and the counts are bounded
pub record IsCountedFunction (c : CountedFunction) : Type 0 where
  pub is_signal_function : IsSignalFunction c.function
  pub heaviest : ℕ
  pub is_count : IsCount heaviest c.visits

-- c after p goes on as d after q
pub record Continues (c : CountedFunction) (p : TimedList) (d : CountedFunction) (q : TimedList) :
    Type 0 where
  pub answers : (r : TimedList) (x : ℕ × Datum)
      → answer c.function (p ++ r) x ≡ answer d.function (q ++ r) x
  pub tallies : (r : TimedList) (x : ℕ × Datum)
      → visits_at c.visits (p ++ r) x ≡ visits_at d.visits (q ++ r) x

-- c after p goes on as some counted function after a past that have P
pub record StandsVia (P : CountedFunction → TimedList
    → Type 0) (c : CountedFunction) (p : TimedList) : Type 0 where
  pub other : CountedFunction
  pub past : TimedList
  pub holds : P other past
  pub goes_on : Continues c p other past

-- x was taken in: what is now has P after it, y was answered, n nodes were visited
pub record TakesSample (P : CountedFunction → TimedList
    → Type 0) (c : CountedFunction) (p : TimedList) (x : ℕ × Datum) (y : Datum) (n : ℕ) : Type 0
  where
    pub stands : P c (p ++ x ∷ [])
    pub answered : y ≡ answer c.function p x
    pub counted : n ≡ visits_at c.visits p x
