-- What a program hands to the C of a network at each sample, and what it gets.
use Rattle.std.specs.Prelude.{◌≡◌, ◌≤◌, ◌<◌, ◌^◌, ℕ, ℤ, pos, int_lt, FitsSigned, Bool, true, false, List, [], ◌∷◌, Some}
use Rattle.std.specs.Int.{w64}
use Rattle.sample_core.specs.Datum.{Datum}
use Rattle.sample_core.specs.TypeTree.{TypeTree}
use Rattle.net_meaning.specs.SignalFunction.{TimedList}
use Rattle.c_meaning.specs.Object.{Object, truth, number, end, i64, number_type, has_type}
use Rattle.c_meaning.specs.Meaning.{Linked}
use Rattle.c_leaf.specs.Representing.{c_type, Represents}

-- at a sample: `dt`, the input, and what stands where the output goes
pub data Handed : Type 0 where
  handed : Object → Object → Object → Handed

-- a program hands over samples: their inputs, and behind the first one steps of 1 to 2^63 - 1
pub data Hands (n : TypeTree → ℕ) (A B : TypeTree) : Bool → TimedList → List Handed → Type 0 where
  hands_none : {b : Bool} → Hands n A B b [] []
  hands_first : {d : ℕ} {v : Datum} {xs : TimedList} {t i o : Object} {hs : List Handed}
      → has_type (number_type i64) t ≡ true → Represents n A v i → has_type (c_type n B) o ≡ true
      → Hands n A B true xs hs → Hands n A B false ((d, v) ∷ xs) (handed t i o ∷ hs)
  hands_next : {d : ℕ} {v : Datum} {xs : TimedList} {i o : Object} {hs : List Handed} → 1 ≤ d
      → d < 2 ^ 63 → Represents n A v i → has_type (c_type n B) o ≡ true → Hands n A B true xs hs
      → Hands n A B true ((d, v) ∷ xs) (handed (number i64 (pos d)) i o ∷ hs)

-- called at each sample, from a state on, a C function has a result, and what it leaves as output
-- represents these values
pub data Outputs (n : TypeTree → ℕ) (B : TypeTree) (f : Linked)
    : Object → List Handed → List Datum → Type 0 where
  outputs_none : {s : Object} → Outputs n B f s [] []
  outputs_one : {s r t i o p : Object} {hs : List Handed} {v : Datum} {vs : List Datum}
      → f (s ∷ t ∷ i ∷ o ∷ []) ≡ Some (r ∷ t ∷ i ∷ p ∷ [], end) → Represents n B v p
      → Outputs n B f r hs vs → Outputs n B f s (handed t i o ∷ hs) (v ∷ vs)

-- what is handed over for samples that fit
pub record HandedFor (n : TypeTree → ℕ) (A B : TypeTree) (xs : TimedList) : Type 0 where
  pub all : List Handed
  pub hands : Hands n A B false xs all

-- a program calls: after the first sample a call whose dt is below 1 hands over none
pub data Calls (n : TypeTree → ℕ) (A B : TypeTree) : Bool → TimedList → List Handed → Type 0 where
  calls_none : {b : Bool} → Calls n A B b [] []
  calls_first : {d : ℕ} {z : ℤ} {v : Datum} {xs : TimedList} {i o : Object} {hs : List Handed}
      → FitsSigned w64 z → Represents n A v i → has_type (c_type n B) o ≡ true
      → Calls n A B true xs hs → Calls n A B false ((d, v) ∷ xs) (handed (number i64 z) i o ∷ hs)
  calls_next : {d : ℕ} {v : Datum} {xs : TimedList} {i o : Object} {hs : List Handed} → 1 ≤ d
      → d < 2 ^ 63 → Represents n A v i → has_type (c_type n B) o ≡ true → Calls n A B true xs hs
      → Calls n A B true ((d, v) ∷ xs) (handed (number i64 (pos d)) i o ∷ hs)
  calls_early : {z : ℤ} {v : Datum} {xs : TimedList} {i o : Object} {hs : List Handed}
      → FitsSigned w64 z → int_lt z (pos 1) ≡ true → Represents n A v i
      → has_type (c_type n B) o ≡ true → Calls n A B true xs hs
      → Calls n A B true xs (handed (number i64 z) i o ∷ hs)

-- the same of a function that answers whether it did a step: if not, all is as it was
pub data Answers (n : TypeTree → ℕ) (B : TypeTree) (f : Linked)
    : Object → List Handed → List Datum → Type 0 where
  answers_none : {s : Object} → Answers n B f s [] []
  answers_step : {s r t i o p : Object} {hs : List Handed} {v : Datum} {vs : List Datum}
      → f (s ∷ t ∷ i ∷ o ∷ []) ≡ Some (r ∷ t ∷ i ∷ p ∷ [], truth true) → Represents n B v p
      → Answers n B f r hs vs → Answers n B f s (handed t i o ∷ hs) (v ∷ vs)
  answers_refusal : {s t i o : Object} {hs : List Handed} {vs : List Datum}
      → f (s ∷ t ∷ i ∷ o ∷ []) ≡ Some (s ∷ t ∷ i ∷ o ∷ [], truth false) → Answers n B f s hs vs
      → Answers n B f s (handed t i o ∷ hs) vs
