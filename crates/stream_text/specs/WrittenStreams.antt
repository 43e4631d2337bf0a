-- How a timed list is written, and that it is read back.
use Rattle.std.specs.Prelude.{◌≡◌, ◌<◌, ◌≤◌, ◌^◌, ℕ, List, [], ◌∷◌, ◌++◌, length, None, codes, ⊤}
use Rattle.std.specs.Fmt.{decimal}
use Rattle.sample_core.specs.Datum.{Datum}
use Rattle.sample_core.specs.HasType.{HasType}
use Rattle.sample_core.specs.Spelling.{spelling}
use Rattle.sample_core.specs.TypeTree.{TypeTree}
use Rattle.stream_text.specs.StreamText.{samples}
use Rattle.stream_text.specs.declared.line.TheConstants.{MOST_SAMPLES, MOST_BYTES}

-- the line of a later sample
abbrev pub sample_line : ℕ × Datum → List ℕ
sample_line x = codes "+" ++ (decimal x.0 ++ (codes " " ++ spelling x.1))

-- the lines of later samples
abbrev pub later_lines : List (ℕ × Datum) → List ℕ
later_lines [] = []
later_lines (x ∷ xs) = sample_line x ++ (10 ∷ later_lines xs)

-- the text of a timed list
abbrev pub text_of : List (ℕ × Datum) → List ℕ
text_of [] = []
text_of (x ∷ xs) = spelling x.1 ++ (10 ∷ later_lines xs)

-- later samples can be written: values of the type, steps in range, and lines that aren't too long
abbrev pub LaterFit : TypeTree → List (ℕ × Datum) → Type 0
LaterFit A [] = ⊤
LaterFit A (x ∷ xs) = (1 ≤ x.0) × (x.0 < 2 ^ 63) × HasType x.1 A × (length (sample_line x) ≤ MOST_BYTES)
    × LaterFit A xs

-- a timed list can be written: as its later samples, its first step is 0, and it has at most
-- 1,000,000 samples
abbrev pub ListFits : TypeTree → List (ℕ × Datum) → Type 0
ListFits A [] = ⊤
ListFits A (x ∷ xs) = (x.0 ≡ 0) × HasType x.1 A × (length (spelling x.1) ≤ MOST_BYTES) × LaterFit A xs
    × (length xs < MOST_SAMPLES)

-- a timed list that is written is read back, without a fault
abbrev pub WrittenLaw : Type 0
WrittenLaw = (A : TypeTree) (xs : List (ℕ × Datum)) → ListFits A xs
    → samples A (text_of xs) ≡ record { taken = xs; fault = None }
