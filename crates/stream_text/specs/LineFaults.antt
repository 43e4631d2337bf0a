-- When each fault of a line comes.
use Rattle.std.specs.Prelude.{◌≡◌, ◌≢◌, ◌↔◌, ◌<◌, ◌≤◌, ℕ, List, ◌++◌, length, Option, Some, None, Ok, Err, codes}
use Rattle.sample_core.specs.Datum.{Datum}
use Rattle.sample_core.specs.Reading.{reading}
use Rattle.sample_core.specs.TypeTree.{TypeTree}
use Rattle.sample_core.specs.declared.fault.ValueFault.{ValueFault}
use Rattle.sample_core.specs.declared.fault.ValueFault.TheVariants as V
use Rattle.stream_text.specs.LineLaws.{IsStepped}
use Rattle.stream_text.specs.StreamText.{line_read}
use Rattle.stream_text.specs.declared.fault.StreamFault.{StreamFault}
use Rattle.stream_text.specs.declared.fault.StreamFault.TheVariants as S
use Rattle.stream_text.specs.declared.line.TheConstants.{MOST_SAMPLES, MOST_BYTES}

-- the line is neither one too many nor too long
abbrev pub IsWithinLimits : ℕ → List ℕ → Type 0
IsWithinLimits n line = (n ≤ MOST_SAMPLES) × (length line ≤ MOST_BYTES)

-- the bytes begin with a `+`
abbrev pub BeginsWithPlus : List ℕ → Type 0
BeginsWithPlus bs = (rest : List ℕ) × (bs ≡ codes "+" ++ rest)

-- the bytes are no value: none stands in front, or one ends before them
pub data ValueFaulty (A : TypeTree) (bs : List ℕ) : ValueFault → Type 0 where
  none_in_front : {fault : ValueFault} → reading A bs ≡ Err fault → ValueFaulty A bs fault
  goes_on : {v : Datum} {taken : ℕ} → reading A bs ≡ Ok (v, taken) → taken ≢ length bs
      → ValueFaulty A bs (V.NotAValue taken)

-- The table of the faults of line n, a row a constructor. The limits come first; then line 1,
-- before which no value is, and the later lines.
pub data LineFaulty (A : TypeTree) (n : ℕ) (line : List ℕ) : Option Datum → StreamFault → Type 0
  where
    too_many : {before : Option Datum} → MOST_SAMPLES < n
        → LineFaulty A n line before (S.TooManySamples n)
    too_long : {before : Option Datum} → n ≤ MOST_SAMPLES → MOST_BYTES < length line
        → LineFaulty A n line before (S.LineTooLong n)
    first_with_plus : IsWithinLimits n line → BeginsWithPlus line
        → LineFaulty A n line None (S.Step n)
    nothing_before : IsWithinLimits n line → line ≡ codes "="
        → LineFaulty A n line None (S.NothingBefore n)
    first_no_value : {fault : ValueFault} → IsWithinLimits n line → (BeginsWithPlus line → ⊥)
        → line ≢ codes "=" → ValueFaulty A line fault
        → LineFaulty A n line None (S.Value n fault)
    later_no_step : {v : Datum} → IsWithinLimits n line
        → ((d : ℕ) (rest : List ℕ) → IsStepped line d rest → ⊥)
        → LineFaulty A n line (Some v) (S.Step n)
    later_no_value : {v : Datum} {d : ℕ} {rest : List ℕ} {fault : ValueFault}
        → IsWithinLimits n line → IsStepped line d rest → rest ≢ codes "="
        → ValueFaulty A rest fault → LineFaulty A n line (Some v) (S.Value n fault)

-- a line has a fault if and only if that fault's row of the table holds
abbrev pub LineFaultLaw : Type 0
LineFaultLaw = (A : TypeTree) (n : ℕ) (before : Option Datum) (line : List ℕ) (fault : StreamFault)
    → line_read A n before line ≡ Err fault ↔ LineFaulty A n line before fault
