-- Which C objects have what networks keep.
use Rattle.std.specs.Prelude.{◌≡◌, ◌≤◌, ◌<◌, ◌^◌, ℕ, zero, suc, ℤ, pos, Bool, true, false, FitsSigned, List, [], ◌∷◌, length, Some, None}
use Rattle.std.specs.Int.{w64}
use Rattle.sample_core.specs.Datum.{Datum}
use Rattle.sample_core.specs.TypeTree.{TypeTree}
use Rattle.leaf_code.specs.Fitting.{Bounds}
use Rattle.cell_core.specs.Cell.{Cell, previous, queue, latest, accumulating, waiting, over, recurring, ticking, summing}
use Rattle.cell_core.specs.declared.form.Form.{Form}
use Rattle.cell_core.specs.declared.form.Form.TheVariants as F
use Rattle.net_machine.specs.Store.{Moment, start, step, Origin, written, made, Store, kept, both, fed, mode, frozen, Entry, stored}
use Rattle.net_machine.specs.Stepper.{Turn, turns}
use Rattle.c_meaning.specs.Object.{CType, truth_type, number_type, no_member, member, array, i64, u64, u32, part_of, Object, truth, number, end, more, has_type, each_has}
use Rattle.c_forms.specs.Ring.{Ring, place, Stores}
use Rattle.c_leaf.specs.Representing.{two, two_types, c_type, Represents}

-- what a function keeps
pub data Shape : Type 0 where
  keeps_none : Shape
  -- a cell, from a constant of a type on
  keeps_cell : Form → TypeTree → Shape
  -- `struct { S one; T other; }`
  keeps_both : Shape → Shape → Shape
  -- `struct { V fed; S all; }`
  keeps_fed : TypeTree → Shape → Shape
  -- of a switch: `struct { bool taken; V by; S front; T taker; }`
  keeps_mode : TypeTree → Shape → Shape → Shape
  -- of one that freezes: `struct { int64_t when; S frozen; T resumer; }`
  keeps_frozen : Shape → Shape → Shape
  -- a member, in front of the others, in one struct
  and_member : Shape → Shape → Shape
  -- of a collection: on either side up to 64 members, each of which may be any: `struct { uint32_t count;
  -- uint32_t side; struct { uint32_t origin; V by; T taker; .. } m[2][64]; }`
  keeps_collection : TypeTree → Shape → Shape → Shape

-- `struct { uint64_t now; V out; uint32_t head; uint32_t size; uint64_t at[q]; V value[q]; }`
abbrev pub delay_type : CType → ℕ → CType
delay_type A q =
    member (number_type u64)
    (member A
    (member (number_type u32)
    (member (number_type u32)
    (member (array q (number_type u64)) (member (array q A) no_member)))))

abbrev pub delay_object : ℕ → Object → ℕ → ℕ → Object → Object → Object
delay_object now out head size ats vals =
    more (number u64 (pos now))
    (more out (more (number u32 (pos head)) (more (number u32 (pos size)) (more ats (more vals end)))))

-- an object has a ring. Of its arrays only what waits is looked at
pub record HoldsRing (n : TypeTree → ℕ) (q : ℕ) (V : TypeTree) (r : Ring) (o : Object) : Type 0 where
  pub outs : Object
  pub ats : Object
  pub vals : Object
  pub is : o ≡ delay_object r.now outs r.head r.size ats vals
  pub now : r.now < 2 ^ 64
  pub head : r.head < q
  pub size : r.size ≤ q
  pub is_out : Represents n V r.out outs
  pub times : (k : ℕ) → k < r.size
      → (part_of ats (place q r.head k) ≡ Some (number u64 (pos (r.at (place q r.head k)))))
      × (r.at (place q r.head k) < 2 ^ 64)
  pub values : (k : ℕ) → k < r.size
      → (p : Object) × (part_of vals (place q r.head k) ≡ Some p)
      × Represents n V (r.value (place q r.head k)) p
  pub times_type : has_type (array q (number_type u64)) ats ≡ true
  pub values_type : has_type (array q (c_type n V)) vals ≡ true

-- what is left to those that wait rises, from l on, to q at most
pub data Rises (q : ℕ) : ℕ → List (ℕ × Datum) → Type 0 where
  rises_none : {l : ℕ} → Rises q l []
  rises_one : {l t : ℕ} {v : Datum} {is : List (ℕ × Datum)} → l ≤ t → t ≤ q → Rises q (suc t) is
      → Rises q l ((t, v) ∷ is)

-- the struct of a cell: a value; or the time left and a value, of `after` with `bool over` in front; or
-- sums
abbrev pub cell_type : Bounds → Form → TypeTree → CType
cell_type n (F.After q) V =
    member truth_type (member (number_type i64) (member (c_type n V) no_member))
cell_type n (F.Repeatedly q) V = member (number_type i64) (member (c_type n V) no_member)
cell_type n F.Time V = member (number_type i64) no_member
cell_type n F.Integral V = member (number_type i64) (member (number_type i64) no_member)
cell_type n (F.Delay q) V = delay_type (c_type n V) q
cell_type n form V = member (c_type n V) no_member

-- how many members may run at once
abbrev pub most_members : ℕ
most_members = 64

-- the struct of a member of a collection: which it is; the value that started it, and what it keeps
-- then; what the written ones keep
abbrev pub entry_type : CType → CType → CType → CType
entry_type V T M = member (number_type u32) (member V (member T M))

abbrev pub collection_type : CType → CType
collection_type E =
    member (number_type u32)
    (member (number_type u32) (member (array 2 (array most_members E)) no_member))

-- so many members run, on one side; a: what this side has, b: the other
abbrev pub side_number : Bool → ℕ
side_number false = 0
side_number true = 1

abbrev pub two_sides : Bool → Object → Object → Object
two_sides false a b = two a b
two_sides true a b = two b a

abbrev pub collection_object : ℕ → Bool → Object → Object → Object
collection_object count side a b =
    more (number u32 (pos count))
    (more (number u32 (pos (side_number side))) (more (two_sides side a b) end))

-- how many members a collection's network has written
abbrev pub written_count : Shape → ℕ
written_count (and_member S T) = suc (written_count T)
written_count _ = zero

-- the struct of what a function keeps
abbrev pub shape_type : Bounds → Shape → CType
shape_type n keeps_none = no_member
shape_type n (keeps_cell form V) = cell_type n form V
shape_type n (keeps_both S T) = two_types (shape_type n S) (shape_type n T)
shape_type n (keeps_fed V S) = two_types (c_type n V) (shape_type n S)
shape_type n (keeps_mode V S T) =
    member truth_type (member (c_type n V) (two_types (shape_type n S) (shape_type n T)))
shape_type n (keeps_frozen S T) =
    member (number_type i64) (two_types (shape_type n S) (shape_type n T))
shape_type n (and_member S T) = member (shape_type n S) (shape_type n T)
shape_type n (keeps_collection V M T) =
    collection_type (entry_type (c_type n V) (shape_type n T) (shape_type n M))

-- an object has what a cell keeps
pub data HoldsCell (n : TypeTree → ℕ) (V : TypeTree) : Form → Cell → Object → Type 0 where
  holds_previous : {v : Datum} {o : Object} → Represents n V v o
      → HoldsCell n V F.IPre (previous v) (more o end)
  holds_latest : {v : Datum} {o : Object} → Represents n V v o
      → HoldsCell n V F.Hold (latest v) (more o end)
  holds_accumulator : {v : Datum} {o : Object} → Represents n V v o
      → HoldsCell n V F.AccumBy (accumulating v) (more o end)
  holds_waiting : {q left : ℕ} {v : Datum} {o : Object} → left ≤ 2 ^ 62 → Represents n V v o
      → HoldsCell n V (F.After q) (waiting left v)
      (more (truth false) (more (number i64 (pos left)) (more o end)))
  -- the time left and the value do not matter any more
  holds_over : {q : ℕ} {z o : Object} → has_type (number_type i64) z ≡ true
      → has_type (c_type n V) o ≡ true
      → HoldsCell n V (F.After q) over (more (truth true) (more z (more o end)))
  holds_recurring : {q left : ℕ} {v : Datum} {o : Object} → left ≤ q → q ≤ 2 ^ 62
      → Represents n V v o
      → HoldsCell n V (F.Repeatedly q) (recurring q left v)
      (more (number i64 (pos left)) (more o end))
  holds_time : {z : ℤ} → FitsSigned w64 z
      → HoldsCell n V F.Time (ticking z) (more (number i64 z) end)
  holds_sum : {z before : ℤ} → FitsSigned w64 z → FitsSigned w64 before
      → HoldsCell n V F.Integral (summing z before) (more (number i64 z) (more (number i64 before) end))
  holds_queue : {q : ℕ} {r : Ring} {out : Datum} {is : List (ℕ × Datum)} {o : Object}
      → q < 2 ^ 32 → HoldsRing n q V r o → Stores q r out is → Rises q 1 is
      → HoldsCell n V (F.Delay q) (queue q out is) o

-- `dt`: 0 at the first sample
abbrev pub dt_of : Moment → ℕ
dt_of start = 0
dt_of (step d) = d

abbrev pub dt_object : Moment → Object
dt_object m = number i64 (pos (dt_of m))

-- a step is at least 1, and has 63 bits
abbrev pub MomentFits : Moment → Type 0
MomentFits start = Unit {0}
MomentFits (step d) = (1 ≤ d) × (d < 2 ^ 63)

mutual
  -- an object has what a store has
  pub data Keeps (n : TypeTree → ℕ) : Shape → Store → Object → Type 0 where
    nothing_kept : {s : Store} → Keeps n keeps_none s end
    cell_kept : {form : Form} {V : TypeTree} {k : Cell} {o : Object} → HoldsCell n V form k o
        → Keeps n (keeps_cell form V) (kept k) o
    both_kept : {S T : Shape} {a b : Store} {o p : Object} → Keeps n S a o → Keeps n T b p
        → Keeps n (keeps_both S T) (both a b) (two o p)
    member_kept : {S T : Shape} {a b : Store} {o p : Object} → Keeps n S a o → Keeps n T b p
        → Keeps n (and_member S T) (both a b) (more o p)
    fed_kept : {V : TypeTree} {S : Shape} {v : Datum} {a : Store} {o p : Object}
        → Represents n V v o → Keeps n S a p → Keeps n (keeps_fed V S) (fed v a) (two o p)
    -- before something takes over, its part is not looked at
    front_kept : {V : TypeTree} {S T : Shape} {a b : Store} {v o p : Object}
        → has_type (c_type n V) v ≡ true → Keeps n S a o → has_type (shape_type n T) p ≡ true
        → Keeps n (keeps_mode V S T) (mode None a b) (more (truth false) (more v (two o p)))
    -- afterwards what ran before is not
    taker_kept : {V : TypeTree} {S T : Shape} {c : Datum} {a b : Store} {v o p : Object}
        → Represents n V c v → has_type (shape_type n S) o ≡ true → Keeps n T b p
        → Keeps n (keeps_mode V S T) (mode (Some c) a b) (more (truth true) (more v (two o p)))
    frozen_kept : {S T : Shape} {m : Moment} {a b : Store} {o p : Object} → MomentFits m
        → KeepsAt n m S a o → Keeps n T b p
        → Keeps n (keeps_frozen S T) (frozen m a b) (more (dt_object m) (two o p))
    -- whatever the next step is
    collection_kept : {V : TypeTree} {M T : Shape} (es : List Entry) (side : Bool) (a b : Object)
        → written_count M ≤ most_members
        → ((d : ℕ) → KeepsTurns n V M T most_members (turns (step d) es) a)
        → has_type (array most_members (entry_type (c_type n V) (shape_type n T) (shape_type n M))) b
        ≡ true
        → Keeps n (keeps_collection V M T) (stored es) (collection_object (length es) side a b)

  -- elements have members' turns, one by one; what stands behind them does not matter
  pub data KeepsTurns (n : TypeTree → ℕ) : TypeTree → Shape → Shape → ℕ → List Turn → Object → Type 0 where
    no_turn : {V : TypeTree} {M T : Shape} {l : ℕ} {o : Object}
        → each_has (has_type (entry_type (c_type n V) (shape_type n T) (shape_type n M))) l o ≡ true
        → KeepsTurns n V M T l [] o
    one_turn : {V : TypeTree} {M T : Shape} {l : ℕ} {m : Moment} {w : Origin} {s : Store} {ts : List Turn}
        {e o : Object} → KeepsEntry n V M T m w s e → KeepsTurns n V M T l ts o
        → KeepsTurns n V M T (suc l) ((m, (w, s)) ∷ ts) (more e o)

  -- a member of a collection: a written one, by its number, or one that a value has started
  pub data KeepsEntry (n : TypeTree → ℕ) : TypeTree → Shape → Shape → Moment → Origin → Store → Object → Type 0 where
    written_kept : {V : TypeTree} {M T : Shape} {m : Moment} {k : ℕ} {s : Store} {v t o : Object}
        → has_type (c_type n V) v ≡ true → has_type (shape_type n T) t ≡ true
        → KeepsMember n M m k s o
        → KeepsEntry n V M T m (written k) s (more (number u32 (pos k)) (more v (more t o)))
    made_kept : {V : TypeTree} {M T : Shape} {m : Moment} {c : Datum} {s : Store} {v t o : Object}
        → Represents n V c v → KeepsAt n m T s t → has_type (shape_type n M) o ≡ true
        → KeepsEntry n V M T m (made c) s
        (more (number u32 (pos (written_count M))) (more v (more t o)))

  -- the part of written member k; those of the others do not matter
  pub data KeepsMember (n : TypeTree → ℕ) : Shape → Moment → ℕ → Store → Object → Type 0 where
    this_member : {S M : Shape} {m : Moment} {s : Store} {o p : Object} → KeepsAt n m S s o
        → has_type (shape_type n M) p ≡ true → KeepsMember n (and_member S M) m 0 s (more o p)
    later_member : {S M : Shape} {m : Moment} {k : ℕ} {s : Store} {o p : Object}
        → has_type (shape_type n S) o ≡ true → KeepsMember n M m k s p
        → KeepsMember n (and_member S M) m (suc k) s (more o p)

  -- at the first sample it may hold anything of its type, or not be set at all
  pub data KeepsAt (n : TypeTree → ℕ) : Moment → Shape → Store → Object → Type 0 where
    at_start : {S : Shape} {s : Store} {o : Object} → has_type (shape_type n S) o ≡ true
        → KeepsAt n start S s o
    at_step : {d : ℕ} {S : Shape} {s : Store} {o : Object} → Keeps n S s o
        → KeepsAt n (step d) S s o
