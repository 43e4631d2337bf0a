-- What reading has to do with spelling, and with each fault.
use Rattle.std.specs.Prelude.{◌≡◌, ◌↔◌, ◌&&◌, false, ℕ, List, ◌++◌, length, drop, Ok, Err}
use Rattle.sample_core.specs.Datum.{Datum}
use Rattle.sample_core.specs.TypeTree.{TypeTree}
use Rattle.sample_core.specs.HasType.{HasType}
use Rattle.sample_core.specs.Spelling.{spelling}
use Rattle.sample_core.specs.Words.{goes_on}
use Rattle.sample_core.specs.SpellsValue.{SpellsValue, ends_in_word}
use Rattle.sample_core.specs.Reading.{reading}
use Rattle.sample_core.specs.Faults.{FirstFault, IsLeftmost}
use Rattle.sample_core.specs.declared.fault.ValueFault.{ValueFault}

-- what is read at the front is spelled there, and what is spelled there is read
abbrev pub ReadingLaw : Type 0
ReadingLaw = (A : TypeTree) (bs : List ℕ) (v : Datum) (n : ℕ)
    → reading A bs ≡ Ok (v, n) ↔ ((n ≡ length (spelling v)) × SpellsValue v A bs (drop n bs))

-- bytes spell one value of a type, if any
abbrev pub OneValueLaw : Type 0
OneValueLaw = (A : TypeTree) (bs rest more : List ℕ) (v w : Datum) → SpellsValue v A bs rest
    → SpellsValue w A bs more → (v ≡ w) × (rest ≡ more)

-- a printed value is read again before any byte that does not go on its last word
abbrev pub ReadAgainLaw : Type 0
ReadAgainLaw = (A : TypeTree) (v : Datum) (rest : List ℕ) → HasType v A
    → (ends_in_word v && goes_on rest) ≡ false
    → reading A (spelling v ++ rest) ≡ Ok (v, length (spelling v))

-- a fault is answered if and only if the bytes begin as a value of the type does, up to a place
-- where that fault is
abbrev pub FaultLaw : Type 0
FaultLaw = (A : TypeTree) (bs : List ℕ) (f : ValueFault) → reading A bs ≡ Err f ↔ FirstFault A bs f

-- reading is refused if and only if no value of the type is spelled in front
abbrev pub NoValueLaw : Type 0
NoValueLaw = (A : TypeTree) (bs : List ℕ)
    → ((f : ValueFault) × (reading A bs ≡ Err f))
    ↔ ((v : Datum) (rest : List ℕ) → SpellsValue v A bs rest → ⊥)

-- the place of a fault is the leftmost
abbrev pub LeftmostLaw : Type 0
LeftmostLaw = (A : TypeTree) (bs : List ℕ) (f : ValueFault) (h : FirstFault A bs f)
    → IsLeftmost A bs h.wanted h.rest
