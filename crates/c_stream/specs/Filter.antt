-- The writers and readers of a filter, behind the functions by hand.
use Rattle.std.specs.Prelude.{◌≡◌, ℕ, ◌+◌, Bool, if◌then◌else◌, List, [], ◌∷◌, ◌++◌, map, length}
use Rattle.sample_core.specs.TypeTree.{TypeTree, unit_ty, bool_ty, int_ty, pair_ty, event_ty, list_ty}
use Rattle.leaf_code.specs.Fitting.{Bounds}
use Rattle.net_meaning.specs.TypedNetwork.{TypedNetwork}
use Rattle.code_fits.specs.declared.layout.Program.{Program}
use Rattle.code_fits.specs.Programs.{IsProgramOf}
use Rattle.code_fits.specs.Room.{HasRoom}
use Rattle.c_meaning.specs.Object.{Object}
use Rattle.c_meaning.specs.Syntax.{File}
use Rattle.c_meaning.specs.Meaning.{Linked, numbered, link}
use Rattle.c_leaf.specs.LeafCLaw.{FewElements}
use Rattle.c_file.specs.Compared.{is_among, number_among}
use Rattle.c_file.specs.FileLaw.{bounds}
use Rattle.c_stream.specs.Streams.{put_unit, put_bool, put_int, read_unit, read_bool, read_int, hand_number, hand_count, HoldsBy, AreStreams, Writes, Reads, PutsByHand, TakesByHand}
use Rattle.c_stream.specs.Writing.{writer}
use Rattle.c_stream.specs.Reading.{reader}

-- a type behind others, if it isn't there
abbrev pub and_new : TypeTree → List TypeTree → List TypeTree
and_new A Ts = if is_among A Ts then Ts else Ts ++ A ∷ []

-- the same of the types with parts that a type is made of, parts first
abbrev pub with_parts : TypeTree → List TypeTree → List TypeTree
with_parts (pair_ty A B) Ts = and_new (pair_ty A B) (with_parts B (with_parts A Ts))
with_parts (event_ty A) Ts = and_new (event_ty A) (with_parts A Ts)
with_parts (list_ty A) Ts = and_new (list_ty A) (with_parts A Ts)
with_parts A Ts = Ts

abbrev pub parts_of : TypeTree → List TypeTree
parts_of A = with_parts A []

-- m: the number of the first function by hand; behind these stand the writers of the output, a B, and then the
-- readers of the input, an A
abbrev pub first_writer : ℕ → ℕ
first_writer m = m + hand_count

abbrev pub first_reader : ℕ → TypeTree → ℕ
first_reader m B = first_writer m + length (parts_of B)

-- the writer of a type T
abbrev pub writer_number : ℕ → TypeTree → TypeTree → ℕ
writer_number m B unit_ty = m + hand_number put_unit
writer_number m B bool_ty = m + hand_number put_bool
writer_number m B int_ty = m + hand_number put_int
writer_number m B T = first_writer m + number_among (parts_of B) T

-- its reader
abbrev pub reader_number : ℕ → TypeTree → TypeTree → TypeTree → ℕ
reader_number m A B unit_ty = m + hand_number read_unit
reader_number m A B bool_ty = m + hand_number read_bool
reader_number m A B int_ty = m + hand_number read_int
reader_number m A B T = first_reader m B + number_among (parts_of A) T

module _ (l : ℕ) (n : TypeTree → ℕ) (most m : ℕ) (A B : TypeTree) where
  abbrev pub writers : File
  writers = map (writer l n m (writer_number m B)) (parts_of B)

  abbrev pub readers : File
  readers = map (reader l n most m (reader_number m A B)) (parts_of A)

  abbrev pub filter_file : File
  filter_file = writers ++ readers

-- behind functions of which the last ones are those by hand, the writer of a B writes its values, and the
-- reader of an A reads its own
abbrev pub Filters : ℕ → (List ℕ → Object → Bool) → (List ℕ → Object → Bool) → Bounds → ℕ → ℕ
    → TypeTree → TypeTree → List Linked → Type 0
Filters l written unread n most m A B fs = AreStreams l (HoldsBy written)
    → AreStreams l (HoldsBy unread) → length fs ≡ m + hand_count
    → PutsByHand (HoldsBy written) n (numbered fs) m → TakesByHand (HoldsBy unread) n most (numbered fs) m
    → Writes (HoldsBy written) n B
    (numbered (link fs (filter_file l n most m A B)) (writer_number m B B))
    × Reads (HoldsBy unread) n most A
    (numbered (link fs (filter_file l n most m A B)) (reader_number m A B A))

-- whatever functions these are, where lists have room
abbrev pub FilterLaw : Type 0
FilterLaw = (l : ℕ) (written unread : List ℕ → Object → Bool) (n : Bounds) (most m : ℕ)
    (A B : TypeTree) (fs : List Linked) → FewElements n → HasRoom n most A
    → Filters l written unread n most m A B fs

-- so in each file of a program, with its input and its output
abbrev pub ProgramFilterLaw : Type 0
ProgramFilterLaw = (t : TypedNetwork) (most : ℕ) (p : Program) → IsProgramOf t most p
    → (l : ℕ) (written unread : List ℕ → Object → Bool) (m : ℕ) (fs : List Linked)
    → Filters l written unread (bounds p) most m t.input t.output fs
