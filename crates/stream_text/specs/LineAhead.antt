-- A later line that is read before its line feed is looked for.
use Rattle.std.specs.Prelude.{◌≡◌, ◌≤◌, ℕ, List, ◌∷◌, ◌++◌, length, take, Option, Some, None, Ok, IfSome, codes}
use Rattle.sample_core.specs.Datum.{Datum}
use Rattle.sample_core.specs.HasType.{HasType}
use Rattle.sample_core.specs.Spelling.{spelling}
use Rattle.sample_core.specs.TypeTree.{TypeTree}
use Rattle.sample_core.specs.ValueView.{datum_of}
use Rattle.sample_core.specs.declared.sample.Sample.{Sample}
use Rattle.stream_text.specs.StreamText.{line_read}
use Rattle.stream_text.specs.StreamView.{value_behind}
use Rattle.stream_text.specs.TextLines.{IsFirstFeed}
use Rattle.stream_text.specs.declared.line.TheConstants.{MOST_SAMPLES}

-- what stands behind a later line's step: its value's spelling, where it writes one, and else `=`
abbrev pub behind_step : Option Sample → List ℕ
behind_step None = codes "="
behind_step (Some v) = spelling (datum_of v)

-- bytes begin with what stands behind a later line's step, so many bytes, and its line feed
pub record EndsLine (A : TypeTree) (bytes : List ℕ) (size : ℕ) (value : Option Sample) : Type 0
  where
    pub typed : IfSome value (λ v. HasType (datum_of v) A)
    pub counts : size ≡ length (behind_step value)
    pub more : List ℕ
    pub begins : bytes ≡ behind_step value ++ (10 ∷ more)

-- Bytes begin with a line, so many bytes, and its line feed; as each later line up to 1,000,000 it
-- holds a sample with the step d, and its own value or, where it writes none, the one before,
-- whichever that is.
pub record IsAhead (A : TypeTree) (bytes : List ℕ) (d size : ℕ) (value : Option Sample) : Type 0
  where
    pub feed : IsFirstFeed bytes size
    pub reads : (n : ℕ) (before : Datum) → n ≤ MOST_SAMPLES
        → line_read A n (Some before) (take size bytes) ≡ Ok (d, value_behind before value)
