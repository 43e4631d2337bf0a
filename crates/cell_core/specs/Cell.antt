-- The cells: what they keep, how they step, and what they stand for.
use Rattle.std.specs.Prelude.{◌≡◌, ℕ, suc, ◌+◌, ◌-◌, ◌*◌, ◌/◌, ◌%◌, ◌≤◌, ℤ, pos, ◌+ℤ◌, ◌*ℤ◌, nat_le, if◌then◌else◌, List, [], ◌∷◌, ◌++◌, length, map}
use Rattle.std.specs.Int.{int_wrap, w64}
use Rattle.sample_core.specs.Datum.{Datum, unit, int, event, no_event, int_of}
use Rattle.net_meaning.specs.SignalFunction.{TimedList, values, times, time_at, last_or, i_pre_value, latest_event, delay_value, if_event, fold_events, accum_by_value, after_value, repeatedly_value, time_value, integral_value, latest_by}

-- what a cell keeps from one sample to the next
pub data Cell : Type 0 where
  -- `iPre`: the value before
  previous : Datum → Cell
  -- `delay`: its q, what is out, and what waits, each with the time that is left to it
  queue : ℕ → Datum → List (ℕ × Datum) → Cell
  -- `hold`: the value of the latest event
  latest : Datum → Cell
  -- `accumBy`: the accumulator
  accumulating : Datum → Cell
  -- `after`: the time left, or past
  waiting : ℕ → Datum → Cell
  over : Cell
  -- `repeatedly`: its q, the time left to the next multiple
  recurring : ℕ → ℕ → Datum → Cell
  -- `time`
  ticking : ℤ → Cell
  -- `integral`: the sum, and the value before
  summing : ℤ → ℤ → Cell

-- what an accumulator holds; `unit` for another cell
abbrev pub accumulator_of : Cell → Datum
accumulator_of (accumulating acc) = acc
accumulator_of _ = unit

-- d less is left to each
abbrev pub count_down : ℕ → List (ℕ × Datum) → List (ℕ × Datum)
count_down d [] = []
count_down d (i ∷ is) = (i.0 - d, i.1) ∷ count_down d is

-- those that are due in d leave the queue, the last of them is out: what is out then, and what
-- still waits
abbrev pub due : ℕ → Datum → List (ℕ × Datum) → Datum × List (ℕ × Datum)
due d out [] = (out, [])
due d out (i ∷ is) = if nat_le i.0 d then due d i.1 is else (out, count_down d (i ∷ is))

-- the queue after the new value v has joined it, and what is out
abbrev pub enqueue : ℕ → Datum → Datum × List (ℕ × Datum) → Cell × Datum
enqueue q v r = (queue q r.0 (r.1 ++ (q, v) ∷ []), r.0)

-- the start of `after`: over at once where q is 0
abbrev pub after_cell : ℕ → Datum → Cell × Datum
after_cell q c = if nat_le q 0 then (over, event c) else (waiting q c, no_event)

-- the step of a cell. An `accumBy` is handed the new accumulator in place of the event's value
abbrev pub cell_step : Cell → ℕ × Datum → Cell × Datum
cell_step (previous v) x = (previous x.1, v)
cell_step (queue q out is) x = enqueue q x.1 (due x.0 out is)
cell_step (latest v) x = (latest (latest_event v (x.1 ∷ [])), latest_event v (x.1 ∷ []))
cell_step (accumulating acc) x =
    (accumulating (latest_event acc (x.1 ∷ [])), if_event x.1 (latest_event acc (x.1 ∷ [])))
cell_step (waiting left c) x = if nat_le left x.0 then (over, event c)
    else (waiting (left - x.0) c, no_event)
cell_step over x = (over, no_event)
cell_step (recurring q left c) x =
    if nat_le left x.0 then (recurring q (q - (x.0 - left) % q) c, event c)
    else (recurring q (left - x.0) c, no_event)
cell_step (ticking z) x = let z' = int_wrap w64 (z +ℤ pos x.0) in (ticking z', int z')
cell_step (summing z before) x =
    let z' = int_wrap w64 (z +ℤ (pos x.0 *ℤ before)) in (summing z' (int_of x.1), int z')

-- what waits at now, by its time and value: at least l is left to it, and more to the later ones
pub data Pending (q now : ℕ) : ℕ → List (ℕ × Datum) → List ℕ → List Datum → Type 0 where
  none_pending : {l : ℕ} → Pending q now l [] [] []
  one_pending : {l left t : ℕ} {v : Datum} {is : List (ℕ × Datum)} {ts : List ℕ} {vs : List Datum}
      → l ≤ left → left ≤ q → now + left ≡ t + q → Pending q now left is ts vs
      → Pending q now l ((left, v) ∷ is) (t ∷ ts) (v ∷ vs)

-- of these times and values the early ones are due, the late ones wait
pub record QueueWaits (q now : ℕ) (c out : Datum) (is : List (ℕ × Datum)) (ts : List ℕ)
    (vs : List Datum) : Type 0 where
  pub early_times : List ℕ
  pub late_times : List ℕ
  pub early_values : List Datum
  pub late_values : List Datum
  pub all_times : ts ≡ early_times ++ late_times
  pub all_values : vs ≡ early_values ++ late_values
  pub matched : length early_times ≡ length early_values
  pub is_out : (later : ℕ) → now ≤ later → latest_by q later c early_times early_values ≡ out
  pub waiting_ones : Pending q now 1 is late_times late_values

-- h's formula after y and p is what the cell goes on with; g is what the leaf of an `accumBy` gives
abbrev pub Keeps : (Datum → Datum) → Cell → (TimedList → Datum) → ℕ × Datum → TimedList → Type 0
Keeps g (previous v) h y p = (c : Datum) × (h ≡ i_pre_value c) × (v ≡ last_or c (values (y ∷ p)))
Keeps g (queue q out is) h y p = (c : Datum) × (h ≡ delay_value q c) × (1 ≤ q)
    × QueueWaits q (time_at (y ∷ p)) c out is (times (y ∷ p)) (values (y ∷ p))
Keeps g (latest v) h y p = (c : Datum) × (h ≡ (λ p. latest_event c (values p)))
    × (v ≡ latest_event c (values (y ∷ p)))
Keeps g (accumulating acc) h y p = (z : Datum) × (h ≡ accum_by_value g z)
    × (acc ≡ fold_events g z (values (y ∷ p)))
Keeps g (waiting left c) h y p = (q : ℕ) × (h ≡ after_value q c) × (1 ≤ left)
    × (time_at (y ∷ p) + left ≡ q)
Keeps g over h y p = (q : ℕ) × (c : Datum) × (h ≡ after_value q c) × (q ≤ time_at (y ∷ p))
Keeps g (recurring q left c) h y p = (h ≡ repeatedly_value q c) × (1 ≤ left) × (left ≤ q)
    × (time_at (y ∷ p) + left ≡ q * suc (time_at (y ∷ p) / q))
Keeps g (ticking z) h y p = (h ≡ time_value) × (z ≡ int_wrap w64 (pos (time_at (y ∷ p))))
Keeps g (summing z before) h y p = (h ≡ integral_value) × (int z ≡ integral_value (y ∷ p))
    × (before ≡ last_or (int_of y.1) (map int_of (values p)))
