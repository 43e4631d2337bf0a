-- A line that is taken off the bytes that are kept.
use Rattle.std.specs.Prelude.{◌≡◌, ◌≢◌, ◌+◌, ◌<◌, ℕ, suc, [], length, take, drop, Option, Some, None, Result, Ok, Err}
use Rattle.sample_core.specs.Datum.{Datum}
use Rattle.sample_core.specs.TypeTree.{TypeTree}
use Rattle.sample_core.specs.declared.sample.Sample.{Sample}
use Rattle.stream_text.specs.Answers.{ReaderState, SameLast}
use Rattle.stream_text.specs.StreamText.{line_read}
use Rattle.stream_text.specs.StreamView.{sample_view}
use Rattle.stream_text.specs.declared.fault.StreamFault.{StreamFault}
use Rattle.stream_text.specs.declared.fault.StreamFault.TheVariants as S
use Rattle.stream_text.specs.declared.reader.Met.TheVariants as M

-- a sample is answered, its line of so many bytes and what ends it let go, and its value kept
pub record KeepsSample (s : ReaderState) (x : ℕ × Datum) (size : ℕ) (s' : ReaderState) : Type 0
  where
    pub kept : s'.kept ≡ drop (size + 1) s.kept
    pub counts : s'.lines ≡ suc s.lines
    pub keeps : s'.before ≡ Some x.1
    pub unread : s'.reads ≡ s.reads
    pub met : s'.met ≡ s.met

-- a fault ends the stream
pub record EndsFaulty (s s' : ReaderState) : Type 0 where
  pub ends : s'.met ≡ M.Fault
  pub same : SameLast s s'
  pub unread : s'.reads ≡ s.reads

-- the sample is answered, or there is no memory for its copy
abbrev pub KeepsCopy : ReaderState → ℕ × Datum → ℕ → Result (Option (ℕ × Sample)) StreamFault
    → ReaderState → Type 0
KeepsCopy s x size (Ok (Some y)) s' = (sample_view y ≡ x) × KeepsSample s x size s'
KeepsCopy s x size (Ok None) s' = ⊥
KeepsCopy s x size (Err fault) s' = (fault ≡ S.Memory) × EndsFaulty s s'

-- what the line of so many bytes holds is answered
abbrev pub TakesKept : TypeTree → ReaderState → ℕ → Result (Option (ℕ × Sample)) StreamFault
    → ReaderState → Type 0
TakesKept A s size (Ok (Some x)) s' =
    (line_read A (suc s.lines) s.before (take size s.kept) ≡ Ok (sample_view x))
    × KeepsSample s (sample_view x) size s'
TakesKept A s size (Ok None) s' = ⊥
TakesKept A s size (Err fault) s' =
    (fault ≢ S.Memory → line_read A (suc s.lines) s.before (take size s.kept) ≡ Err fault)
    × EndsFaulty s s'

-- at the end, what the last line holds is answered, or nothing if there is none
abbrev pub TakesLast : TypeTree → ReaderState → Result (Option (ℕ × Sample)) StreamFault
    → ReaderState → Type 0
TakesLast A s (Ok None) s' = (s.kept ≡ []) × (s'.kept ≡ []) × (s'.met ≡ M.End) × SameLast s s'
    × (s'.reads ≡ s.reads)
TakesLast A s answer s' = (0 < length s.kept)
    × TakesKept A (record s { met = M.End }) (length s.kept) answer s'
