-- A text as lines.
use Rattle.std.specs.Prelude.{◌≡◌, ◌≢◌, ◌<◌, ◌+◌, ℕ, nat_eq, nat_lt, Bool, ◌&&◌, ◌||◌, List, [], ◌∷◌, ◌++◌, length, slice_index, take, if◌then◌else◌}
use Rattle.stream_text.specs.declared.line.TheConstants.{MOST_SAMPLES, MOST_BYTES}

-- no byte is a line feed
abbrev pub IsFeedFree : List ℕ → Type 0
IsFeedFree bs = (k : ℕ) → k < length bs → slice_index bs k ≢ 10

-- the first line feed of the bytes stands there
pub record IsFirstFeed (bytes : List ℕ) (at : ℕ) : Type 0 where
  pub within : at < length bytes
  pub feed : slice_index bytes at ≡ 10
  pub none_before : IsFeedFree (take at bytes)

-- bytes begin with a line and its line feed, behind which the rest stands
pub record HasLine (bytes line rest : List ℕ) : Type 0 where
  pub one_line : IsFeedFree line
  pub ended : bytes ≡ line ++ (10 ∷ rest)

-- Bytes as the lines that have their line feed, without it, and what stands behind the last of
-- these.
pub record Split : Type 0 where
  pub lines : List (List ℕ)
  pub behind : List ℕ

-- a byte more at the front of the first line
abbrev pub led_by : ℕ → List (List ℕ) → List ℕ → Split
led_by b [] behind = record { lines = []; behind = b ∷ behind }
led_by b (line ∷ lines) behind = record { lines = (b ∷ line) ∷ lines; behind = behind }

-- the bytes at their line feeds
abbrev pub split : List ℕ → Split
split [] = record { lines = []; behind = [] }
split (b ∷ bs) = if nat_eq b 10
    then record { lines = [] ∷ (split bs).lines; behind = (split bs).behind }
    else led_by b (split bs).lines (split bs).behind

-- a line without line feed at the end of a text: none where it has no byte
abbrev pub last_line : List ℕ → List (List ℕ)
last_line [] = []
last_line (b ∷ bs) = (b ∷ bs) ∷ []

-- The lines of a text, without their line feeds. The last may lack its line feed where it has a
-- byte.
abbrev pub lines_of : List ℕ → List (List ℕ)
lines_of text = (split text).lines ++ last_line (split text).behind

-- whether so many bytes without line feed, the front of line n, show already that it holds no
-- sample: it is too long, or one line too many
abbrev pub shows_fault : ℕ → ℕ → Bool
shows_fault n size = nat_lt MOST_BYTES size || (nat_lt MOST_SAMPLES n && nat_lt 0 size)

-- The lines of bytes that aren't known to be all, from line n on: those with their line feed, and
-- what stands behind them where it shows its fault already.
abbrev pub front_lines : ℕ → List ℕ → List (List ℕ)
front_lines n bs = (split bs).lines
    ++ (if shows_fault (n + length (split bs).lines) (length (split bs).behind)
    then (split bs).behind ∷ [] else [])
