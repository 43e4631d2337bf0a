-- The ring buffer of a `delay`, as the C has it, and the queue that it stands for.
use Rattle.std.specs.Prelude.{◌≡◌, ◌+◌, ◌-◌, ◌%◌, ◌^◌, ◌<◌, ◌≤◌, ℕ, zero, suc, nat_eq, nat_le, nat_lt, ◌&&◌, Bool, if◌then◌else◌, List, [], ◌∷◌, ◌++◌, length}
use Rattle.sample_core.specs.Datum.{Datum}
use Rattle.cell_core.specs.Cell.{due}

-- an array: what stands at each index
abbrev pub Array : Type 0 → Type 0
Array X = ℕ → X

abbrev pub stored_at : {X : Type 0} → Array X → ℕ → X → Array X
stored_at a i x k = if nat_eq k i then x else a k

-- `struct { uint64_t now; out; uint32_t head, size; uint64_t at[q]; value[q]; }`
pub record Ring : Type 0 where
  pub now : ℕ
  pub out : Datum
  pub head : ℕ
  pub size : ℕ
  pub at : Array ℕ
  pub value : Array Datum

-- `now - at`, of `uint64_t`
abbrev pub age : ℕ → ℕ → ℕ
age now at = (now + (2 ^ 64 - at)) % 2 ^ 64

-- `(head + 1 == q) ? 0 : head + 1`
abbrev pub next : ℕ → ℕ → ℕ
next q h = if nat_eq (suc h) q then 0 else suc h

-- `(head + size >= q) ? head + size - q : head + size`
abbrev pub place : ℕ → ℕ → ℕ → ℕ
place q h n = if nat_le q (h + n) then h + n - q else h + n

-- the body of the loop
abbrev pub left_one : ℕ → Ring → Ring
left_one q r = record {
  now = r.now;
  out = r.value r.head;
  head = next q r.head;
  size = r.size - 1;
  at = r.at;
  value = r.value;
}

-- whether the oldest is due
abbrev pub is_due : ℕ → Ring → Bool
is_due q r = nat_lt 0 r.size && nat_le q (age r.now (r.at r.head))

-- the loop, at most n times
abbrev pub leaving : ℕ → ℕ → Ring → Ring
leaving q zero r = r
leaving q (suc n) r = if is_due q r then leaving q n (left_one q r) else r

-- `now += dt`
abbrev pub later : ℕ → Ring → Ring
later d r = record {
  now = (r.now + d) % 2 ^ 64;
  out = r.out;
  head = r.head;
  size = r.size;
  at = r.at;
  value = r.value;
}

-- `at[i] = now; value[i] = x; size++`
abbrev pub joined : ℕ → Datum → Ring → Ring
joined q x r = record {
  now = r.now;
  out = r.out;
  head = r.head;
  size = suc r.size;
  at = stored_at r.at (place q r.head r.size) r.now;
  value = stored_at r.value (place q r.head r.size) x;
}

-- a sample x, d after the one before
abbrev pub ring_step : ℕ → ℕ → Datum → Ring → Ring
ring_step q d x r = joined q x (leaving q q (later d r))

-- from index h on stand these, oldest first, to each of which at least l is left, and no less to later
-- ones; their ages and what is left to them come to q and e
pub data Holds (q e now : ℕ) (at : Array ℕ) (value : Array Datum) : ℕ → ℕ → List (ℕ × Datum) → Type 0
  where
    holds_none : {l h : ℕ} → Holds q e now at value l h []
    holds_one : {l h t : ℕ} {v : Datum} {is : List (ℕ × Datum)} → l ≤ t
        → age now (at h) + t ≡ q + e → value h ≡ v
        → Holds q e now at value t (next q h) is → Holds q e now at value l h ((t, v) ∷ is)

-- a ring stands for a queue
pub record Stores (q : ℕ) (r : Ring) (out : Datum) (is : List (ℕ × Datum)) : Type 0 where
  pub now : r.now < 2 ^ 64
  pub is_out : r.out ≡ out
  pub head : r.head < q
  pub size : r.size ≡ length is
  pub room : length is ≤ q
  pub holds : Holds q 0 r.now r.at r.value 0 r.head is

-- a step of the ring is one of the queue, where what still waits leaves room for one more
abbrev pub RingLaw : Type 0
RingLaw = (q d : ℕ) (x : Datum) (r : Ring) (out : Datum) (is : List (ℕ × Datum)) → q + d < 2 ^ 64
    → Stores q r out is → length (due d out is).1 < q
    → Stores q (ring_step q d x r) (due d out is).0 ((due d out is).1 ++ (q, x) ∷ [])
