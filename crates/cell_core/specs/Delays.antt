-- What a delay's front and back are, and how they step.
use Rattle.std.specs.Prelude.{◌≡◌, ℕ, List, ◌∷◌, ◌++◌, length}
use Rattle.sample_core.specs.Datum.{Datum}
use Rattle.cell_core.specs.Cell.{Cell, queue, due, enqueue}
use Rattle.cell_core.specs.Queue.{times_behind, place, place_within, fronted, IsFront}
use Rattle.cell_core.specs.Earlier.{back_of}
use Rattle.cell_core.specs.declared.behind.Behind.{Behind}
use Rattle.cell_core.specs.declared.behind.Passed.{Passed}
use Rattle.cell_core.specs.declared.front.Front.{Front}

-- those in front, the newest first
abbrev pub front_of : Front → List (ℕ × Datum)
front_of f = f.entries

-- the queue at that age of the front, from the place of what is out and those behind
abbrev pub queue_of : Front → ℕ → ℕ → List (ℕ × Datum) → Cell
queue_of f age at back =
    queue f.q (place (front_of f) at).1 (fronted (front_of f) age at ++ times_behind f.q back)

-- where in front what is out stands
abbrev pub out_in : Front → Behind → ℕ
out_in f n = place_within (length f.entries) n.passed.at

-- the cell that these are
abbrev pub delay_of : Front → Behind → Cell
delay_of f n = queue_of f n.passed.age (out_in f n) (back_of n)

-- what is behind after a further sample, where those in front have passed so far
abbrev pub Follows : Behind → Passed → ℕ × Datum → Behind → Type 0
Follows b p e c = (back_of c ≡ e ∷ back_of b) × (c.passed ≡ p)

-- the queue and the answer with this front, its age, the place of what is out, and these behind
abbrev pub IsJoined : Front → ℕ → ℕ → List (ℕ × Datum) → Cell × Datum → Type 0
IsJoined f age at back r = (queue_of f age at back, (place (front_of f) at).1) ≡ r

-- what is out and what waits dt later, where all in front has passed
abbrev pub through : Front → Behind → ℕ → Datum × List (ℕ × Datum)
through f n dt = due dt (place (front_of f) 0).1 (times_behind f.q (back_of n))

-- the queue and the answer after dt more, where all in front has passed, with v in it
abbrev pub IsTurnedOver : Front → Behind → ℕ → Datum → Cell × Datum → Type 0
IsTurnedOver f n dt v r = enqueue f.q v (through f n dt) ≡ r

-- those that wait dt later, where all in front has passed, and last what is out
abbrev pub IsGathered : Front → Behind → ℕ → List (ℕ × Datum) → Type 0
IsGathered f n dt es = IsFront es (through f n dt)
