-- What waits in a delay, in front and behind, newest first in both.
use Rattle.std.specs.Prelude.{◌≡◌, ℕ, zero, suc, nat_lt, if◌then◌else◌, ◌+◌, ◌-◌, ◌≤◌, ◌<◌, ◌^◌, List, [], ◌∷◌, ◌++◌, length, get_or, reverse, Option, Some, None}
use Rattle.sample_core.specs.Datum.{Datum, unit}
use Rattle.cell_core.specs.Cell.{Cell, queue, due}

-- the time that is left to each of those behind, the oldest first, where t is left to the newest;
-- in the list each has its step since the one before it
abbrev pub times_behind : ℕ → List (ℕ × Datum) → List (ℕ × Datum)
times_behind t [] = []
times_behind t (e ∷ es) = times_behind (t - e.0) es ++ (t, e.1) ∷ []

-- the time at which the one at a place in front is due, and its value
abbrev pub place : List (ℕ × Datum) → ℕ → ℕ × Datum
place es n = get_or es n (0, unit)

-- a place in front, or the last where there are only n
abbrev pub place_within : ℕ → ℕ → ℕ
place_within n at = if nat_lt at n then at else n - 1

-- the time that is left at now to each of the first n in front, the oldest first
abbrev pub fronted : List (ℕ × Datum) → ℕ → ℕ → List (ℕ × Datum)
fronted es now zero = []
fronted es now (suc n) = ((place es n).0 - now, (place es n).1) ∷ fronted es now n

-- what is out moves from one place in front to another in d from now, whatever waits behind
abbrev pub MovesInQueue : List (ℕ × Datum) → ℕ → ℕ → ℕ → ℕ → Type 0
MovesInQueue es now d from to =
    (more : List (ℕ × Datum)) → due d (place es from).1 (fronted es now from ++ more)
    ≡ due d (place es to).1 (fronted es now to ++ more)

-- what is out comes to that place in d, and those before it aren't due
abbrev pub IsPassed : List (ℕ × Datum) → ℕ → ℕ → ℕ → ℕ → Type 0
IsPassed es now d from to =
    (to ≤ from)
    × MovesInQueue es now d from to
    × (0 < to → d < (place es (to - 1)).0 - now)
    × (0 < to → now + d < 2 ^ 64)

-- the queue and the answer with this front, of which the last is out, and the sample v behind
abbrev pub IsRenewed : ℕ → List (ℕ × Datum) → Datum → Cell × Datum → Type 0
IsRenewed q es v r = (
  queue q (place es (length es - 1)).1 (fronted es 0 (length es - 1) ++ (q, v) ∷ []),
  (place es (length es - 1)).1,
) ≡ r

-- what is out and what waits in all, where these were found to wait, the newest first
abbrev pub then_found : Datum × List (ℕ × Datum) → List (ℕ × Datum) → Datum × List (ℕ × Datum)
then_found r found = (r.0, r.1 ++ reverse found)

-- what is out and what waits, as the last in front and those before it
abbrev pub IsFront : List (ℕ × Datum) → Datum × List (ℕ × Datum) → Type 0
IsFront es r = (0 < length es)
    × (r ≡ ((place es (length es - 1)).1, fronted es 0 (length es - 1)))

-- in d, where t is left to the newest of a back, these of it are found beside those before: all
-- of it, and so much is left to the one before it, or one is due, which is last, and is out
abbrev pub Gathers : ℕ → ℕ → List (ℕ × Datum) → List (ℕ × Datum) → Option ℕ → List (ℕ × Datum)
    → Type 0
Gathers d t back es (Some left) fs = (out : Datum) (older : List (ℕ × Datum))
    → then_found (due d out (times_behind t (back ++ older))) es
    ≡ then_found (due d out (times_behind left older)) fs
Gathers d t back es None fs = (out : Datum) (older : List (ℕ × Datum))
    → IsFront fs (then_found (due d out (times_behind t (back ++ older))) es)
