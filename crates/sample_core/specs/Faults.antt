-- Where bytes stop being the beginning of a value of a type, and what is wrong there.
use Rattle.std.specs.Prelude.{◌≡◌, ◌≢◌, Bool, true, false, ◌||◌, ℕ, List, ◌∷◌, ◌++◌, length, take, ◌-◌, bytes_eq, codes}
use Rattle.sample_core.specs.Datum.{Datum, Datums}
use Rattle.sample_core.specs.TypeTree.{TypeTree, unit_ty, bool_ty, int_ty, pair_ty, event_ty, list_ty}
use Rattle.sample_core.specs.HasType.{HasType}
use Rattle.sample_core.specs.Spelling.{spelling}
use Rattle.sample_core.specs.Number.{is_number, is_in_64}
use Rattle.sample_core.specs.Words.{goes_on, word_of, form_word}
use Rattle.sample_core.specs.Reading.{begins_value, begins_with}
use Rattle.sample_core.specs.SpellsValue.{SpellsValue, SpellsRow}
use Rattle.sample_core.specs.declared.fault.ValueFault.{ValueFault}
use Rattle.sample_core.specs.declared.fault.ValueFault.TheVariants as Fault

-- whether a value of the type begins: one of its words, a number of whatever size, or '(' and its
-- form's word
abbrev pub begins_type : TypeTree → List ℕ → Bool
begins_type unit_ty bs = bytes_eq (word_of bs) (codes "unit")
begins_type bool_ty bs = bytes_eq (word_of bs) (codes "true")
    || bytes_eq (word_of bs) (codes "false")
begins_type int_ty bs = is_number (word_of bs)
begins_type (pair_ty A B) bs = bytes_eq (form_word bs) (codes "pair")
begins_type (event_ty A) bs = bytes_eq (word_of bs) (codes "none")
    || bytes_eq (form_word bs) (codes "event")
begins_type (list_ty A) bs = bytes_eq (form_word bs) (codes "list")

-- what must stand at a place: a value of a type, a byte (32 is a space, 41 is ')'), or in a list
-- either of these
pub data Expectation : Type 0 where
  a_value : TypeTree → Expectation
  a_byte : ℕ → Expectation
  a_space_or_close : Expectation

-- The bytes begin as a value of the type does, up to a place. There the wanted must stand, and the
-- rest stands.
pub data Leads : TypeTree → List ℕ → Expectation → List ℕ → Type 0 where
  -- in front, the value itself
  at_front : {A : TypeTree} {bs : List ℕ} → Leads A bs (a_value A) bs
  -- behind the word `pair`, a space
  behind_pair : {A B : TypeTree} {rest : List ℕ} → goes_on rest ≡ false
      → Leads (pair_ty A B) (codes "(pair" ++ rest) (a_byte 32) rest
  -- what the first part leads to
  in_first : {A B : TypeTree} {bs rest : List ℕ} {w : Expectation} → Leads A bs w rest
      → Leads (pair_ty A B) (codes "(pair " ++ bs) w rest
  -- behind the first part, a space
  behind_first : {A B : TypeTree} {v : Datum} {bs rest : List ℕ} → SpellsValue v A bs rest
      → Leads (pair_ty A B) (codes "(pair " ++ bs) (a_byte 32) rest
  -- what the second part leads to
  in_second : {A B : TypeTree} {v : Datum} {bs cs rest : List ℕ} {w : Expectation}
      → SpellsValue v A bs (32 ∷ cs) → Leads B cs w rest
      → Leads (pair_ty A B) (codes "(pair " ++ bs) w rest
  -- behind both parts, a ')'
  behind_second : {A B : TypeTree} {v x : Datum} {bs cs rest : List ℕ}
      → SpellsValue v A bs (32 ∷ cs) → SpellsValue x B cs rest
      → Leads (pair_ty A B) (codes "(pair " ++ bs) (a_byte 41) rest
  -- behind the word `event`, a space
  behind_event : {A : TypeTree} {rest : List ℕ} → goes_on rest ≡ false
      → Leads (event_ty A) (codes "(event" ++ rest) (a_byte 32) rest
  -- what the event's value leads to
  in_event : {A : TypeTree} {bs rest : List ℕ} {w : Expectation} → Leads A bs w rest
      → Leads (event_ty A) (codes "(event " ++ bs) w rest
  -- behind it, a ')'
  behind_inner : {A : TypeTree} {v : Datum} {bs rest : List ℕ} → SpellsValue v A bs rest
      → Leads (event_ty A) (codes "(event " ++ bs) (a_byte 41) rest
  -- behind the word `list` and some elements, a space or a ')'
  behind_elements : {A : TypeTree} {vs : Datums} {bs rest : List ℕ} → SpellsRow vs A bs rest
      → Leads (list_ty A) (codes "(list" ++ bs) a_space_or_close rest
  -- what a further element leads to
  in_element : {A : TypeTree} {vs : Datums} {bs cs rest : List ℕ} {w : Expectation}
      → SpellsRow vs A bs (32 ∷ cs) → Leads A cs w rest
      → Leads (list_ty A) (codes "(list" ++ bs) w rest

-- what stands at the place p is not what is wanted there
pub data Wrong : Expectation → List ℕ → ℕ → ValueFault → Type 0 where
  -- none of any type begins
  no_value : {A : TypeTree} {rest : List ℕ} {p : ℕ} → begins_value rest ≡ false
      → Wrong (a_value A) rest p (Fault.NotAValue p)
  -- one of another type begins
  another_type : {A : TypeTree} {rest : List ℕ} {p : ℕ} → begins_value rest ≡ true
      → begins_type A rest ≡ false → Wrong (a_value A) rest p (Fault.OtherType p)
  -- a number wanted is outside 64 bits
  too_large : {rest : List ℕ} {p : ℕ} → is_number (word_of rest) ≡ true
      → is_in_64 (word_of rest) ≡ false → Wrong (a_value int_ty) rest p (Fault.NumberRange p)
  -- the byte is missing
  no_byte : {b : ℕ} {rest : List ℕ} {p : ℕ} → begins_with b rest ≡ false
      → Wrong (a_byte b) rest p (Fault.NotAValue p)
  -- neither a space nor a ')' stands there
  neither : {rest : List ℕ} {p : ℕ} → begins_with 32 rest ≡ false → begins_with 41 rest ≡ false
      → Wrong a_space_or_close rest p (Fault.NotAValue p)

-- the bytes begin as a value of the type does, up to a place where the fault is
pub record FirstFault (A : TypeTree) (bs : List ℕ) (f : ValueFault) : Type 0 where
  pub wanted : Expectation
  pub rest : List ℕ
  pub leads : Leads A bs wanted rest
  pub wrong : Wrong wanted rest (length bs - length rest) f

-- what a refusal says of the bytes: `Memory` says nothing
abbrev pub FaultOf : ValueFault → TypeTree → List ℕ → Type 0
FaultOf f A bs = f ≢ Fault.Memory → FirstFault A bs f

-- behind a place stands the same as far as it matters there: the same word, also behind a '(', or
-- the same byte, if any
abbrev pub SameThere : Expectation → List ℕ → List ℕ → Type 0
SameThere (a_value A) rest after = (word_of after ≡ word_of rest)
    × (form_word after ≡ form_word rest)
SameThere (a_byte b) rest after = take 1 after ≡ take 1 rest
SameThere a_space_or_close rest after = take 1 after ≡ take 1 rest

-- The bytes before the place begin the spelling of some value of the type, and no value of the type
-- is spelled by them
-- and what stands there, whatever follows.
pub record IsLeftmost (A : TypeTree) (bs : List ℕ) (wanted : Expectation) (rest : List ℕ) : Type 0
  where
    pub before : List ℕ
    pub place : bs ≡ before ++ rest
    pub value : Datum
    pub more_bytes : List ℕ
    pub typed : HasType value A
    pub spells : spelling value ≡ before ++ more_bytes
    pub none : (after : List ℕ) → SameThere wanted rest after → (v : Datum) (behind : List ℕ)
        → SpellsValue v A (before ++ after) behind → ⊥
