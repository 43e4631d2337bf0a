-- The visits of the last sample, by those of the parts.
use Rattle.std.proofs.Common.{◌≡◌, ℕ, suc, ◌+◌, ◌<◌, List, [], ◌∷◌, ◌++◌, length, take, drop, refl, sym, ap, ◌∙◌, arith, length-drop, take-append-drop}
use Rattle.sample_core.specs.Datum.{Datum}
use Rattle.net_meaning.specs.SignalFunction.{TimedList, last_or}
use Rattle.state_core.specs.Visits.{VisitCounts, add_counts, and_one, resume_counts}

-- the last of a list, behind others, or without its first items
pub last-behind : {A : Type 0} (a d : A) (ms ns : List A) → 0 < length ns → last_or a (ms ++ ns) ≡ last_or d ns
last-behind a d [] [] l = absurd (omega arith)
last-behind a d [] (n ∷ ns) l = refl
last-behind a d (m ∷ ms) ns l = last-behind m d ms ns l

pub last-later : {A : Type 0} (a d : A) (k : ℕ) (ns : List A) → k < length ns → last_or a (drop k ns) ≡ last_or d ns
last-later a d k ns l = sym (last-behind d a (take k ns) (drop k ns) (omega (arith, length-drop k ns))) ∙ ap (last_or d) (take-append-drop k ns)

-- the last count, 0 where there is none
abbrev pub last_count : List ℕ → ℕ
last_count ns = last_or 0 ns

last-added_from : (a b : ℕ) (ms ns : List ℕ) → length ns ≡ length ms → last_or (a + b) (add_counts ms ns) ≡ last_or a ms + last_or b ns
last-added_from a b [] [] e = refl
last-added_from a b [] (n ∷ ns) e = absurd (omega arith)
last-added_from a b (m ∷ ms) [] e = absurd (omega arith)
last-added_from a b (m ∷ ms) (n ∷ ns) e = let e' : length ns ≡ length ms = omega arith in last-added_from m n ms ns e'

pub last-added : (ms ns : List ℕ) → length ns ≡ length ms → last_count (add_counts ms ns) ≡ last_count ms + last_count ns
last-added ms ns e = last-added_from 0 0 ms ns e

last-and_one_from : (a : ℕ) (ns : List ℕ) → last_or (suc a) (and_one ns) ≡ suc (last_or a ns)
last-and_one_from a [] = refl
last-and_one_from a (n ∷ ns) = last-and_one_from n ns

pub last-and_one : (ns : List ℕ) → 0 < length ns → last_count (and_one ns) ≡ suc (last_count ns)
last-and_one [] l = absurd (omega arith)
last-and_one (n ∷ ns) l = last-and_one_from n ns

pub last-resume_counts : (v : VisitCounts) (p : TimedList) (d : ℕ) (x : ℕ × Datum) (xs : TimedList) → length p < length (v (p ++ (d, x.1) ∷ xs))
    → last_count (resume_counts v p d (x ∷ xs)) ≡ last_count (v (p ++ (d, x.1) ∷ xs))
last-resume_counts v p d x xs l = last-later 0 0 (length p) (v (p ++ (d, x.1) ∷ xs)) l
