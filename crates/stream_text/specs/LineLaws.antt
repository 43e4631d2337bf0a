-- When a line is a step and a value, and which.
use Rattle.std.specs.Prelude.{◌≡◌, ◌⊎◌, ◌↔◌, ◌<◌, ◌≤◌, ◌^◌, ℕ, List, ◌++◌, length, Option, Some, None, Ok, codes}
use Rattle.std.specs.Fmt.{decimal}
use Rattle.sample_core.specs.Datum.{Datum}
use Rattle.sample_core.specs.HasType.{HasType}
use Rattle.sample_core.specs.Spelling.{spelling}
use Rattle.sample_core.specs.TypeTree.{TypeTree}
use Rattle.stream_text.specs.StepText.{step_in}
use Rattle.stream_text.specs.StreamText.{line_read, whole_value}
use Rattle.stream_text.specs.declared.line.TheConstants.{MOST_SAMPLES, MOST_BYTES}

-- bytes are read as a value of a type if and only if they are its spelling
abbrev pub WholeValueLaw : Type 0
WholeValueLaw = (A : TypeTree) (n : ℕ) (bs : List ℕ) (v : Datum)
    → whole_value A n bs ≡ Ok v ↔ (HasType v A × (bs ≡ spelling v))

-- a line is `+`, the digits of a step from 1 to 2^63 - 1, a space and the rest
abbrev pub IsStepped : List ℕ → ℕ → List ℕ → Type 0
IsStepped line d rest = (1 ≤ d) × (d < 2 ^ 63)
    × (line ≡ codes "+" ++ (decimal d ++ (codes " " ++ rest)))

-- a line is read as a step and a rest if and only if it is written so
abbrev pub StepLaw : Type 0
StepLaw = (line rest : List ℕ) (d : ℕ) → step_in line ≡ Some (d, rest) ↔ IsStepped line d rest

-- a line holds the sample x: line 1, where no value is before it, is the value's spelling; a later
-- line is a step, and the value's spelling or a `=` for the value before
abbrev pub HoldsSample : TypeTree → Option Datum → List ℕ → ℕ × Datum → Type 0
HoldsSample A None line x = (x.0 ≡ 0) × HasType x.1 A × (line ≡ spelling x.1)
HoldsSample A (Some before) line x = (rest : List ℕ) × IsStepped line x.0 rest
    × (((rest ≡ codes "=") × (x.1 ≡ before)) ⊎ (HasType x.1 A × (rest ≡ spelling x.1)))

-- line n is read as a sample if and only if it is one of the first 1,000,000, has at most 65,536
-- bytes and holds the sample
abbrev pub LineLaw : Type 0
LineLaw = (A : TypeTree) (n : ℕ) (before : Option Datum) (line : List ℕ) (x : ℕ × Datum)
    → line_read A n before line ≡ Ok x
    ↔ ((n ≤ MOST_SAMPLES) × (length line ≤ MOST_BYTES) × HoldsSample A before line x)
