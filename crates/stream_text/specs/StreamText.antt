-- The samples that the text of a stream holds, and its first fault.
use Rattle.std.specs.Prelude.{◌≡◌, ℕ, suc, nat_eq, nat_lt, List, [], ◌∷◌, length, Option, Some, None, Result, Ok, Err, if◌then◌else◌, bytes_eq, codes, is_some, ⊤}
use Rattle.sample_core.specs.Answer.{◌>>=◌, GivesUnless}
use Rattle.sample_core.specs.Datum.{Datum}
use Rattle.sample_core.specs.HasType.{HasType}
use Rattle.sample_core.specs.TypeTree.{TypeTree}
use Rattle.sample_core.specs.Reading.{reading}
use Rattle.sample_core.specs.declared.fault.ValueFault.{ValueFault}
use Rattle.sample_core.specs.declared.fault.ValueFault.TheVariants as V
use Rattle.stream_text.specs.StepText.{stripped, step_in}
use Rattle.stream_text.specs.TextLines.{front_lines, lines_of}
use Rattle.stream_text.specs.declared.fault.StreamFault.{StreamFault}
use Rattle.stream_text.specs.declared.fault.StreamFault.TheVariants as S
use Rattle.stream_text.specs.declared.line.TheConstants.{MOST_SAMPLES, MOST_BYTES}

-- a value that was read off the front of so many bytes of line n is whole where it takes all of
-- them
abbrev pub if_whole : ℕ → ℕ → Result (Datum × ℕ) ValueFault → Result Datum StreamFault
if_whole n size (Err fault) = Err (S.Value n fault)
if_whole n size (Ok (v, taken)) = if nat_eq taken size then Ok v
    else Err (S.Value n (V.NotAValue taken))

-- the value that all of the bytes write, in line n
abbrev pub whole_value : TypeTree → ℕ → List ℕ → Result Datum StreamFault
whole_value A n bs = if_whole n (length bs) (reading A bs)

-- the value as a sample with the step d
abbrev pub with_step : ℕ → Result Datum StreamFault → Result (ℕ × Datum) StreamFault
with_step d value = value >>= (λ v. Ok (d, v))

-- line 1 is a value; its step is 0, since no network sees it
abbrev pub first_line : TypeTree → ℕ → List ℕ → Result (ℕ × Datum) StreamFault
first_line A n line = if is_some (stripped 43 line) then Err (S.Step n)
    else (if bytes_eq line (codes "=") then Err (S.NothingBefore n)
    else with_step 0 (whole_value A n line))

-- behind its step, a later line is `=`, which repeats the value before, or a value
abbrev pub later_line : TypeTree → ℕ → Datum → Option (ℕ × List ℕ) → Result (ℕ × Datum) StreamFault
later_line A n before None = Err (S.Step n)
later_line A n before (Some (d, rest)) = if bytes_eq rest (codes "=") then Ok (d, before)
    else with_step d (whole_value A n rest)

-- the value before a line, of which so many were taken: none before line 1, and later one of the
-- type
abbrev pub IsBefore : TypeTree → ℕ → Option Datum → Type 0
IsBefore A taken None = taken ≡ 0
IsBefore A taken (Some v) = HasType v A

-- line 1 where no value is before it, else a later line
abbrev pub line_after : TypeTree → ℕ → Option Datum → List ℕ → Result (ℕ × Datum) StreamFault
line_after A n None line = first_line A n line
line_after A n (Some before) line = later_line A n before (step_in line)

-- The sample of line n, where the value before it is given; or what is wrong with the line. The
-- limits come first.
abbrev pub line_read : TypeTree → ℕ → Option Datum → List ℕ → Result (ℕ × Datum) StreamFault
line_read A n before line = if nat_lt MOST_SAMPLES n then Err (S.TooManySamples n)
    else (if nat_lt MOST_BYTES (length line) then Err (S.LineTooLong n) else line_after A n before line)

-- a fault that a line's text can have
abbrev pub IsOfText : StreamFault → Type 0
IsOfText S.ReadTurns = ⊥
IsOfText S.Read = ⊥
IsOfText S.Memory = ⊥
IsOfText S.Ended = ⊥
IsOfText _ = ⊤

-- What a stream holds: the samples of the lines before the first faulty one, and that line's fault.
pub record Samples : Type 0 where
  pub taken : List (ℕ × Datum)
  pub fault : Option StreamFault

-- a sample and what the rest holds behind it, or the fault alone
abbrev pub then_samples : Result (ℕ × Datum) StreamFault → (ℕ × Datum → Samples) → Samples
then_samples (Err fault) rest = record { taken = []; fault = Some fault }
then_samples (Ok x) rest = record { taken = x ∷ (rest x).taken; fault = (rest x).fault }

-- what the lines from line n on hold, where the value before them is given
abbrev pub samples_from : TypeTree → ℕ → Option Datum → List (List ℕ) → Samples
samples_from A n before [] = record { taken = []; fault = None }
samples_from A n before (line ∷ lines) =
    then_samples (line_read A n before line) (λ x. samples_from A (suc n) (Some x.1) lines)

-- What a text holds, as a stream of values of type A.
abbrev pub samples : TypeTree → List ℕ → Samples
samples A text = samples_from A 1 None (lines_of text)

-- What bytes hold that aren't known to be all: their last line counts only where it has its line
-- feed or shows a fault already.
abbrev pub front : TypeTree → List ℕ → Samples
front A bs = samples_from A 1 None (front_lines 1 bs)

-- What a call returned, seen by view, is what reading gives, unless memory ran out.
abbrev pub GivesLine : {X Y : Type 0} → (X → Y) → Result X StreamFault → Result Y StreamFault → Type 0
GivesLine view result read = GivesUnless S.Memory view result read
