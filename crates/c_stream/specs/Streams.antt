-- Streams of bytes in C, and the functions over them that are written by hand: what these do is assumed.
use Rattle.std.specs.Prelude.{◌≡◌, ℕ, ◌+◌, nat_eq, if◌then◌else◌, Bool, true, false, List, [], ◌∷◌, ◌++◌, Option, Some, None, codes}
use Rattle.sample_core.specs.Datum.{Datum}
use Rattle.sample_core.specs.TypeTree.{TypeTree, unit_ty, bool_ty, int_ty}
use Rattle.sample_core.specs.Spelling.{spelling}
use Rattle.sample_core.specs.SpellsValue.{SpellsValue}
use Rattle.sample_core.specs.Words.{goes_on}
use Rattle.leaf_code.specs.Fitting.{Bounds, Fits}
use Rattle.code_fits.specs.Room.{all_at}
use Rattle.c_meaning.specs.Object.{u8, u32, CType, truth_type, number_type, no_member, array, Object, truth, end, has_type}
use Rattle.c_meaning.specs.Syntax.{Term, local, by_const, by_pointer, Command, call}
use Rattle.c_meaning.specs.Meaning.{Linked}
use Rattle.c_leaf.specs.Representing.{two_types, c_type, Represents}

-- `struct stream { uint32_t n; uint8_t e[l]; }`
abbrev pub stream_type : ℕ → CType
stream_type l = two_types (number_type u32) (array l (number_type u8))

-- the functions that are written by hand
pub data ByHand : Type 0 where
  -- `void put(struct stream *o)`: write `(pair `, `(event `, `(list`, `none`, a blank, `)`
  put_pair : ByHand
  put_event : ByHand
  put_list : ByHand
  put_none : ByHand
  put_blank : ByHand
  put_close : ByHand
  -- `void put(struct stream *o, const T *v)`: write a value
  put_unit : ByHand
  put_bool : ByHand
  put_int : ByHand
  -- `bool take(struct stream *r)`: go on behind `(pair`, `(event`, `none`, `(list`, a blank, `)`
  take_pair : ByHand
  is_event : ByHand
  take_none : ByHand
  take_list : ByHand
  take_blank : ByHand
  take_close : ByHand
  -- the same of `)`, where a list may go on; and behind the last element that is read
  is_close : ByHand
  end_list : ByHand
  -- `bool read(struct stream *r, T *v)`: read a value
  read_unit : ByHand
  read_bool : ByHand
  read_int : ByHand

-- their numbers behind the first
abbrev pub hand_number : ByHand → ℕ
hand_number put_pair = 0
hand_number put_event = 1
hand_number put_list = 2
hand_number put_none = 3
hand_number put_blank = 4
hand_number put_close = 5
hand_number put_unit = 6
hand_number put_bool = 7
hand_number put_int = 8
hand_number take_pair = 9
hand_number is_event = 10
hand_number take_none = 11
hand_number take_list = 12
hand_number take_blank = 13
hand_number take_close = 14
hand_number is_close = 15
hand_number end_list = 16
hand_number read_unit = 17
hand_number read_bool = 18
hand_number read_int = 19

-- how many there are
abbrev pub hand_count : ℕ
hand_count = 20

-- m: the number of the first; local 0: the stream
abbrev pub put : ℕ → ByHand → Command
put m k = call no_member (m + hand_number k) (by_pointer (local 0) ∷ [])

abbrev pub take : ℕ → ByHand → Command
take m k = call truth_type (m + hand_number k) (by_pointer (local 0) ∷ [])

-- calls of a part's writer and reader
abbrev pub write_part : ℕ → Term → Command
write_part k e = call no_member k (by_pointer (local 0) ∷ by_const e ∷ [])

abbrev pub read_part : ℕ → Term → Command
read_part k e = call truth_type k (by_pointer (local 0) ∷ by_pointer e ∷ [])

-- which bytes a stream holds, those that were written or those that are unread, by a test
abbrev pub HoldsBy : (List ℕ → Object → Bool) → List ℕ → Object → Type 0
HoldsBy test s o = test s o ≡ true

-- what holds bytes is a stream
abbrev pub AreStreams : ℕ → (List ℕ → Object → Type 0) → Type 0
AreStreams l Holds = (s : List ℕ) (o : Object) → Holds s o → has_type (stream_type l) o ≡ true

-- nothing is answered, these bytes are written now, and the other objects hold what they held
pub record Wrote (Holds : List ℕ → Object → Type 0) (s : List ℕ) (os : List Object)
    (c : Option (List Object × Object)) : Type 0 where
  pub stream : Object
  pub result : c ≡ Some (stream ∷ os, end)
  pub holds : Holds s stream

-- a function writes these bytes behind what was written
abbrev pub Puts : (List ℕ → Object → Type 0) → List ℕ → Linked → Type 0
Puts Holds bs f = (s : List ℕ) (o : Object) → Holds s o → Wrote Holds (s ++ bs) [] (f (o ∷ []))

-- a function writes a value's spelling
abbrev pub Writes : (List ℕ → Object → Type 0) → Bounds → TypeTree → Linked → Type 0
Writes Holds n A f = (v : Datum) (s : List ℕ) (o p : Object) → Holds s o → Represents n A v p
    → Wrote Holds (s ++ spelling v) (p ∷ []) (f (o ∷ p ∷ []))

-- bytes without the byte in front, if it stands there
abbrev pub without_byte : ℕ → List ℕ → Option (List ℕ)
without_byte c [] = None
without_byte c (b ∷ bs) = if nat_eq b c then Some bs else None

-- bytes without the word in front, if it stands there and does not go on
abbrev pub without_word : List ℕ → List ℕ → Option (List ℕ)
without_word [] bs = if goes_on bs then None else Some bs
without_word (c ∷ cs) [] = None
without_word (c ∷ cs) (b ∷ bs) = if nat_eq b c then without_word cs bs else None

-- what is answered where the bytes s are unread, and these stand behind what is looked for: it is taken; or
-- it does not stand there, and none is taken
pub data Tried (Holds : List ℕ → Object → Type 0) (s : List ℕ) (behind : Option (List ℕ))
    (c : Option (List Object × Object)) : Type 0 where
  tried_there : {rest : List ℕ} {o : Object} → behind ≡ Some rest → c ≡ Some (o ∷ [], truth true)
      → Holds rest o → Tried Holds s behind c
  tried_none : {o : Object} → behind ≡ None → c ≡ Some (o ∷ [], truth false) → Holds s o
      → Tried Holds s behind c

-- a function takes what stands in front, if it does
abbrev pub Takes : (List ℕ → Object → Type 0) → (List ℕ → Option (List ℕ)) → Linked → Type 0
Takes Holds behind f = (s : List ℕ) (o : Object) → Holds s o
    → Tried Holds s (behind s) (f (o ∷ []))

-- a value of the type is spelled in front of the rest, whose lists have at most so many elements
pub record Stands (most : ℕ) (A : TypeTree) (v : Datum) (s rest : List ℕ) : Type 0 where
  pub spells : SpellsValue v A s rest
  pub fits : Fits (all_at most) v A

-- what a reader answers where the bytes s are unread: the value that stands there is read; or none of the
-- type stands there
pub data Read (Holds : List ℕ → Object → Type 0) (n : TypeTree → ℕ) (most : ℕ) (A : TypeTree)
    (s : List ℕ) (c : Option (List Object × Object)) : Type 0 where
  read_value : {v : Datum} {rest : List ℕ} {o p : Object} → Stands most A v s rest
      → Represents n A v p → c ≡ Some (o ∷ p ∷ [], truth true) → Holds rest o
      → Read Holds n most A s c
  read_none : {rest : List ℕ} {o p : Object}
      → ((v : Datum) (behind : List ℕ) → Stands most A v s behind → ⊥)
      → has_type (c_type n A) p ≡ true → c ≡ Some (o ∷ p ∷ [], truth false) → Holds rest o
      → Read Holds n most A s c

-- a function reads a value into any object of its type
abbrev pub Reads : (List ℕ → Object → Type 0) → Bounds → ℕ → TypeTree → Linked → Type 0
Reads Holds n most A f = (s : List ℕ) (o p : Object) → Holds s o → has_type (c_type n A) p ≡ true
    → Read Holds n most A s (f (o ∷ p ∷ []))

-- what the functions by hand that write do; F: all functions, m: the number of the first by hand
pub record PutsByHand (Holds : List ℕ → Object → Type 0) (n : TypeTree → ℕ) (F : ℕ → Linked) (m : ℕ)
    : Type 0 where
  pub pair : Puts Holds (codes "(pair ") (F (m + hand_number put_pair))
  pub event : Puts Holds (codes "(event ") (F (m + hand_number put_event))
  pub list : Puts Holds (codes "(list") (F (m + hand_number put_list))
  pub none : Puts Holds (codes "none") (F (m + hand_number put_none))
  pub blank : Puts Holds (codes " ") (F (m + hand_number put_blank))
  pub close : Puts Holds (codes ")") (F (m + hand_number put_close))
  pub unit : Writes Holds n unit_ty (F (m + hand_number put_unit))
  pub bool : Writes Holds n bool_ty (F (m + hand_number put_bool))
  pub int : Writes Holds n int_ty (F (m + hand_number put_int))

-- and what those that read do
pub record TakesByHand (Holds : List ℕ → Object → Type 0) (n : TypeTree → ℕ) (most : ℕ)
    (F : ℕ → Linked) (m : ℕ) : Type 0 where
  pub pair : Takes Holds (without_word (codes "(pair")) (F (m + hand_number take_pair))
  pub event : Takes Holds (without_word (codes "(event")) (F (m + hand_number is_event))
  pub none : Takes Holds (without_word (codes "none")) (F (m + hand_number take_none))
  pub list : Takes Holds (without_word (codes "(list")) (F (m + hand_number take_list))
  pub blank : Takes Holds (without_byte 32) (F (m + hand_number take_blank))
  pub close : Takes Holds (without_byte 41) (F (m + hand_number take_close))
  pub is_close : Takes Holds (without_byte 41) (F (m + hand_number is_close))
  pub end_list : Takes Holds (without_byte 41) (F (m + hand_number end_list))
  pub unit : Reads Holds n most unit_ty (F (m + hand_number read_unit))
  pub bool : Reads Holds n most bool_ty (F (m + hand_number read_bool))
  pub int : Reads Holds n most int_ty (F (m + hand_number read_int))
