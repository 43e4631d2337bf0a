-- Readers of values, by type: each over those of its parts.
use Rattle.std.specs.Prelude.{◌≡◌, ◌≤◌, ℕ, pos, Bool, true, List, [], ◌∷◌}
use Rattle.sample_core.specs.TypeTree.{TypeTree, pair_ty, event_ty, list_ty}
use Rattle.leaf_code.specs.Fitting.{Bounds}
use Rattle.c_meaning.specs.Object.{u32, truth_type, Object}
use Rattle.c_meaning.specs.Syntax.{plus, local, dot, at, boolean, literal, binary, pointer_param, Command, skip, assign, branch, loop, answer, Function}
use Rattle.c_meaning.specs.Meaning.{Linked, function_run}
use Rattle.c_leaf.specs.Representing.{c_type}
use Rattle.c_leaf.specs.LeafC.{stop_unless}
use Rattle.c_leaf.specs.LeafCLaw.{FewElements}
use Rattle.c_forms.specs.Forms.{lines}
use Rattle.c_stream.specs.Streams.{stream_type, take_pair, is_event, take_none, take_list, take_blank, take_close, is_close, end_list, take, read_part, HoldsBy, AreStreams, Reads, TakesByHand}
use Rattle.c_stream.specs.Writing.{has_parts}

-- what an event carries is read
abbrev pub carried_body : ℕ → (TypeTree → ℕ) → TypeTree → Command
carried_body m h A =
    lines
    (take m take_blank
    ∷ stop_unless (local 3)
    ∷ read_part (h A) (dot (local 1) 1)
    ∷ stop_unless (local 4)
    ∷ take m take_close
    ∷ []) (answer (local 5))

-- an element is read, unless the list ends: then all is
abbrev pub element_body : ℕ → (TypeTree → ℕ) → TypeTree → Command
element_body m h A =
    lines
    (take m is_close
    ∷ branch (local 4) (answer (boolean true)) skip
    ∷ take m take_blank
    ∷ stop_unless (local 5)
    ∷ read_part (h A) (at (dot (local 1) 1) (local 3))
    ∷ stop_unless (local 6)
    ∷ []) (assign (dot (local 1) 0) (binary plus u32 (local 3) (literal u32 (pos 1))))

-- local 1 is read into; a list has at most so many elements; h: the readers of types
abbrev pub reader_body : ℕ → ℕ → (TypeTree → ℕ) → TypeTree → Command
reader_body most m h (pair_ty A B) =
    lines
    (take m take_pair
    ∷ stop_unless (local 2)
    ∷ take m take_blank
    ∷ stop_unless (local 3)
    ∷ read_part (h A) (dot (local 1) 0)
    ∷ stop_unless (local 4)
    ∷ take m take_blank
    ∷ stop_unless (local 5)
    ∷ read_part (h B) (dot (local 1) 1)
    ∷ stop_unless (local 6)
    ∷ take m take_close
    ∷ []) (answer (local 7))
reader_body most m h (event_ty A) =
    lines
    (take m is_event
    ∷ assign (dot (local 1) 0) (local 2)
    ∷ branch (local 2) (carried_body m h A) skip
    ∷ take m take_none
    ∷ []) (answer (local 3))
reader_body most m h (list_ty A) =
    lines
    (take m take_list
    ∷ stop_unless (local 2)
    ∷ assign (dot (local 1) 0) (literal u32 (pos 0))
    ∷ loop most (boolean true) (element_body m h A)
    ∷ take m end_list
    ∷ []) (answer (local 3))
reader_body most m h A = answer (boolean true)

-- `bool read(struct stream *r, T *v)`
abbrev pub reader : ℕ → Bounds → ℕ → ℕ → (TypeTree → ℕ) → TypeTree → Function
reader l n most m h A = record {
  params = pointer_param (stream_type l) ∷ pointer_param (c_type n A) ∷ [];
  result = truth_type;
  body = reader_body most m h A;
}

-- the readers of a type's parts read, and its list has room
abbrev pub PartsRead : (List ℕ → Object → Type 0) → Bounds → ℕ → (ℕ → Linked) → (TypeTree → ℕ)
    → TypeTree → Type 0
PartsRead Holds n most F h (pair_ty A B) =
    Reads Holds n most A (F (h A)) × Reads Holds n most B (F (h B))
PartsRead Holds n most F h (event_ty A) = Reads Holds n most A (F (h A))
PartsRead Holds n most F h (list_ty A) = (most ≤ n A) × Reads Holds n most A (F (h A))
PartsRead Holds n most F h A = Unit {0}

-- such a function reads a value exactly where one is spelled, where those that it calls do
abbrev pub ReadingLaw : Type 0
ReadingLaw = (l : ℕ) (test : List ℕ → Object → Bool) (n : Bounds) (most : ℕ) (F : ℕ → Linked) (m : ℕ)
    (h : TypeTree → ℕ) (A : TypeTree) → AreStreams l (HoldsBy test) → FewElements n
    → TakesByHand (HoldsBy test) n most F m → PartsRead (HoldsBy test) n most F h A → has_parts A ≡ true
    → Reads (HoldsBy test) n most A (function_run F (reader l n most m h A))
