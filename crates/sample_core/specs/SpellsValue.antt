-- Which bytes spell a value of a type, with other bytes behind it.
use Rattle.std.specs.Prelude.{◌≡◌, Bool, true, false, ◌&&◌, ℕ, List, ◌++◌}
use Rattle.sample_core.specs.Datum.{Datum, Datums, unit, bool, int, pair, no_event, event, list, end, more}
use Rattle.sample_core.specs.TypeTree.{TypeTree}
use Rattle.sample_core.specs.HasType.{HasType, HaveType}
use Rattle.sample_core.specs.Spelling.{spelling, spellings}
use Rattle.sample_core.specs.Words.{goes_on}

-- whether the spelling ends in a word, and not in a ')'
abbrev pub ends_in_word : Datum → Bool
ends_in_word (pair v w) = false
ends_in_word (event v) = false
ends_in_word (list vs) = false
ends_in_word unit = true
ends_in_word (bool b) = true
ends_in_word (int n) = true
ends_in_word no_event = true

-- the same of a list's elements; where there are none, the word `list` itself is in front
abbrev pub row_ends_in_word : Datums → Bool
row_ends_in_word end = true
row_ends_in_word (more v end) = ends_in_word v
row_ends_in_word (more v (more w vs)) = row_ends_in_word (more w vs)

-- the bytes are the spelling of a value of the type and then the rest, which does not go on its
-- last word
pub record SpellsValue (v : Datum) (A : TypeTree) (bs rest : List ℕ) : Type 0 where
  pub typed : HasType v A
  pub spells : bs ≡ spelling v ++ rest
  pub apart : (ends_in_word v && goes_on rest) ≡ false

-- the same of a list's elements, each with a space before it
pub record SpellsRow (vs : Datums) (A : TypeTree) (bs rest : List ℕ) : Type 0 where
  pub typed : HaveType vs A
  pub spells : bs ≡ spellings vs ++ rest
  pub apart : (row_ends_in_word vs && goes_on rest) ≡ false
