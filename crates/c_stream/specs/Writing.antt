-- Writers of values, by type: each over those of its parts.
use Rattle.std.specs.Prelude.{◌≡◌, ℕ, Bool, true, false, List, [], ◌∷◌}
use Rattle.sample_core.specs.TypeTree.{TypeTree, unit_ty, bool_ty, int_ty, pair_ty, event_ty, list_ty}
use Rattle.leaf_code.specs.Fitting.{Bounds}
use Rattle.c_meaning.specs.Object.{u32, no_member, Object}
use Rattle.c_meaning.specs.Syntax.{less, local, dot, at, none, binary, const_param, pointer_param, Command, sequence, branch, loop, answer, Function}
use Rattle.c_meaning.specs.Meaning.{Linked, function_run}
use Rattle.c_leaf.specs.Representing.{c_type}
use Rattle.c_leaf.specs.LeafCLaw.{FewElements}
use Rattle.c_forms.specs.Forms.{lines}
use Rattle.c_stream.specs.Streams.{stream_type, put_pair, put_event, put_list, put_none, put_blank, put_close, put, write_part, HoldsBy, AreStreams, Writes, PutsByHand}

-- whether values of the type have parts; the others are written and read by hand
abbrev pub has_parts : TypeTree → Bool
has_parts unit_ty = false
has_parts bool_ty = false
has_parts int_ty = false
has_parts A = true

-- local 1 is written; w: the writers of types
abbrev pub writer_body : Bounds → ℕ → (TypeTree → ℕ) → TypeTree → Command
writer_body n m w (pair_ty A B) =
    lines
    (put m put_pair
    ∷ write_part (w A) (dot (local 1) 0)
    ∷ put m put_blank
    ∷ write_part (w B) (dot (local 1) 1)
    ∷ put m put_close
    ∷ []) (answer none)
writer_body n m w (event_ty A) =
    sequence
    (branch (dot (local 1) 0)
    (lines (put m put_event ∷ write_part (w A) (dot (local 1) 1) ∷ []) (put m put_close))
    (put m put_none)) (answer none)
writer_body n m w (list_ty A) =
    lines
    (put m put_list
    ∷ loop (n A) (binary less u32 (local 3) (dot (local 1) 0))
    (sequence (put m put_blank) (write_part (w A) (at (dot (local 1) 1) (local 3))))
    ∷ put m put_close
    ∷ []) (answer none)
writer_body n m w A = answer none

-- `void write(struct stream *o, const T *v)`
abbrev pub writer : ℕ → Bounds → ℕ → (TypeTree → ℕ) → TypeTree → Function
writer l n m w A = record {
  params = pointer_param (stream_type l) ∷ const_param (c_type n A) ∷ [];
  result = no_member;
  body = writer_body n m w A;
}

-- the writers of a type's parts write
abbrev pub PartsWritten : (List ℕ → Object → Type 0) → Bounds → (ℕ → Linked) → (TypeTree → ℕ)
    → TypeTree → Type 0
PartsWritten Holds n F w (pair_ty A B) = Writes Holds n A (F (w A)) × Writes Holds n B (F (w B))
PartsWritten Holds n F w (event_ty A) = Writes Holds n A (F (w A))
PartsWritten Holds n F w (list_ty A) = Writes Holds n A (F (w A))
PartsWritten Holds n F w A = Unit {0}

-- such a function writes a value's spelling, where those that it calls do
abbrev pub WritingLaw : Type 0
WritingLaw = (l : ℕ) (test : List ℕ → Object → Bool) (n : Bounds) (F : ℕ → Linked) (m : ℕ)
    (w : TypeTree → ℕ) (A : TypeTree) → AreStreams l (HoldsBy test) → FewElements n
    → PutsByHand (HoldsBy test) n F m → PartsWritten (HoldsBy test) n F w A → has_parts A ≡ true
    → Writes (HoldsBy test) n A (function_run F (writer l n m w A))
