-- The C function of `delay`, over its ring.
use Rattle.std.specs.Prelude.{◌≤◌, ◌<◌, ◌^◌, ℕ, pos, List, [], ◌∷◌}
use Rattle.sample_core.specs.TypeTree.{TypeTree}
use Rattle.leaf_code.specs.Fitting.{Bounds}
use Rattle.cell_core.specs.declared.form.Form.TheVariants as F
use Rattle.c_meaning.specs.Object.{number_type, u64, u32}
use Rattle.c_meaning.specs.Syntax.{plus, minus, less, at_most, equals, Term, local, at, literal, binary, both, choice, cast, Command, sequence, define, assign, loop, Function}
use Rattle.c_meaning.specs.Meaning.{Linked}
use Rattle.c_forms.specs.Keeping.{Shape}
use Rattle.c_forms.specs.Cells.{kept_at, at_first, register, cell_function, CellLaw}

-- its members
abbrev pub now_of : Term
now_of = kept_at 0

abbrev pub out_of : Term
out_of = kept_at 1

abbrev pub head_of : Term
head_of = kept_at 2

abbrev pub size_of : Term
size_of = kept_at 3

abbrev pub times_of : Term
times_of = kept_at 4

abbrev pub values_of : Term
values_of = kept_at 5

-- `s->now = 0; s->head = 0; s->size = 0; s->out = c;`
abbrev pub emptied : Term → Command
emptied c =
    sequence (assign now_of (literal u64 (pos 0)))
    (sequence (assign head_of (literal u32 (pos 0)))
    (sequence (assign size_of (literal u32 (pos 0))) (assign out_of c)))

-- `s->now += (uint64_t)dt;`
abbrev pub go_later : Command
go_later = assign now_of (binary plus u64 now_of (cast u64 (local 1)))

-- `(0 < s->size) && (q <= s->now - s->at[s->head])`
abbrev pub due_test : ℕ → Term
due_test q =
    both (binary less u32 (literal u32 (pos 0)) size_of)
    (binary at_most u64 (literal u64 (pos q)) (binary minus u64 now_of (at times_of head_of)))

-- `s->head + 1 == q ? 0 : s->head + 1`
abbrev pub next_term : ℕ → Term
next_term q =
    choice
    (binary equals u32 (binary plus u32 head_of (literal u32 (pos 1))) (literal u32 (pos q)))
    (literal u32 (pos 0)) (binary plus u32 head_of (literal u32 (pos 1)))

-- `s->out = s->value[s->head]; s->head = ..; s->size = s->size - 1;`
abbrev pub leave_body : ℕ → Command
leave_body q =
    sequence (assign out_of (at values_of head_of))
    (sequence (assign head_of (next_term q))
    (assign size_of (binary minus u32 size_of (literal u32 (pos 1)))))

-- `q <= s->head + s->size ? s->head + s->size - q : s->head + s->size`
abbrev pub place_term : ℕ → Term
place_term q =
    choice (binary at_most u32 (literal u32 (pos q)) (binary plus u32 head_of size_of))
    (binary minus u32 (binary plus u32 head_of size_of) (literal u32 (pos q)))
    (binary plus u32 head_of size_of)

-- `s->at[i] = s->now; s->value[i] = *x; s->size = s->size + 1;`
abbrev pub join_body : Term → Command
join_body i =
    sequence (assign (at times_of i) now_of)
    (sequence (assign (at values_of i) (local 2))
    (assign size_of (binary plus u32 size_of (literal u32 (pos 1)))))

module _ (n : Bounds) (Ps : List TypeTree) (Os : List Shape) where
  abbrev pub delay_function : ℕ → TypeTree → ℕ → Function
  delay_function q V c =
      cell_function n Ps Os (F.Delay q) V V V c
      (at_first (emptied (register n Ps Os 0))
      ∷ go_later
      ∷ loop q (due_test q) (leave_body q)
      ∷ define (number_type u32) (place_term q)
      ∷ join_body (register n Ps Os 1)
      ∷ []) out_of

  -- the ring has room for q samples: there are no more where each comes at least 1 after the one before
  abbrev pub DelayLaw : (ℕ → Linked) → Type 0
  DelayLaw G = (q : ℕ) (V : TypeTree) → 1 ≤ q → q < 2 ^ 31
      → CellLaw n Ps Os G (F.Delay q) V V V (delay_function q V)
