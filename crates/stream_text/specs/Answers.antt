-- What the calls of a reader of lines answer.
use Rattle.std.specs.Prelude.{◌≡◌, ◌≢◌, ◌⊎◌, ◌+◌, ℕ, suc, true, List, [], ◌∷◌, ◌++◌, length, Option, Some, None, Result, Ok, Err}
use Rattle.std.specs.Io.KnownBytes.{IsAtEnd}
use Rattle.sample_core.specs.Datum.{Datum}
use Rattle.sample_core.specs.TypeTree.{TypeTree}
use Rattle.sample_core.specs.declared.sample.Sample.{Sample}
use Rattle.stream_text.specs.Pieces.{ReadPieces, Reads, bytes_read}
use Rattle.stream_text.specs.Settling.{AsksAsNeeded, IsUnsettled}
use Rattle.stream_text.specs.StreamText.{line_read}
use Rattle.stream_text.specs.StreamView.{sample_view}
use Rattle.stream_text.specs.TextLines.{HasLine, IsFeedFree, front_lines, lines_of, shows_fault}
use Rattle.stream_text.specs.declared.fault.StreamFault.{StreamFault}
use Rattle.stream_text.specs.declared.fault.StreamFault.TheVariants as S
use Rattle.stream_text.specs.declared.reader.Met.{Met}
use Rattle.stream_text.specs.declared.reader.Met.TheVariants as M
use Rattle.stream_text.specs.declared.settle.TheConstants.{MOST_READS}

-- the bytes that were read and not yet answered, how many lines were answered, the value that was
-- answered last, how many reads were made, and what has ended the stream
pub record ReaderState : Type 0 where
  pub kept : List ℕ
  pub lines : ℕ
  pub before : Option Datum
  pub reads : ℕ
  pub met : Met

-- nothing was read yet
pub record IsFresh (s : ReaderState) : Type 0 where
  pub kept : s.kept ≡ []
  pub lines : s.lines ≡ 0
  pub before : s.before ≡ None
  pub reads : s.reads ≡ 0
  pub met : s.met ≡ M.Nothing

-- as many lines are answered, and the same value last
pub record SameLast (s s' : ReaderState) : Type 0 where
  pub lines : s'.lines ≡ s.lines
  pub before : s'.before ≡ s.before

-- a line is taken off the bytes: it ends at its line feed, or it is the last, where there are no
-- more bytes
abbrev pub TakesLine : Type 0 → List ℕ → List ℕ → List ℕ → Met → Type 0
TakesLine end bytes line rest M.Nothing = HasLine bytes line rest
TakesLine end bytes line rest M.End = end × (lines_of bytes ≡ line ∷ []) × (rest ≡ [])
TakesLine end bytes line rest M.Fault = ⊥

-- The next line of the bytes holds the sample x, which is answered; its value is kept.
pub record AnswersSample (A : TypeTree) (end : Type 0) (s : ReaderState) (bytes : List ℕ)
    (x : ℕ × Datum) (s' : ReaderState) : Type 0 where
  pub goes_on : s.met ≡ M.Nothing
  pub line : List ℕ
  pub takes : TakesLine end bytes line s'.kept s'.met
  pub reads : line_read A (suc s.lines) s.before line ≡ Ok x
  pub counts : s'.lines ≡ suc s.lines
  pub keeps : s'.before ≡ Some x.1

-- There is no line more: the end was met before, or it is met here with no byte left.
pub record MeetsEnd (end : Type 0) (s : ReaderState) (bytes : List ℕ) (s' : ReaderState) : Type 0
  where
    pub ends : s'.met ≡ M.End
    pub same : SameLast s s'
    pub empty : (s.met ≡ M.End) ⊎ ((s.met ≡ M.Nothing) × end × (bytes ≡ []))

-- The first line of the bytes, line n of the stream, is known: it has its line feed; or it is all
-- of them, without line feed, and shows a fault already; or there are no more bytes.
pub data KnownLine (end : Type 0) (n : ℕ) (bytes line : List ℕ) : Type 0 where
  ended : (rest : List ℕ) → HasLine bytes line rest → KnownLine end n bytes line
  shown : line ≡ bytes → IsFeedFree bytes → shows_fault n (length bytes) ≡ true
      → KnownLine end n bytes line
  last : end → lines_of bytes ≡ line ∷ [] → KnownLine end n bytes line

-- the next line of the bytes is known and has this fault
pub record FaultyLine (A : TypeTree) (end : Type 0) (s : ReaderState) (bytes : List ℕ)
    (fault : StreamFault) : Type 0 where
  pub line : List ℕ
  pub known : KnownLine end (suc s.lines) bytes line
  pub refuses : line_read A (suc s.lines) s.before line ≡ Err fault

-- the bytes that were kept, and those that were read behind them in these pieces
abbrev pub known_bytes : ReaderState → ReadPieces → List ℕ
known_bytes s pieces = s.kept ++ bytes_read pieces

-- no line of the bytes is known, nor that there are no more, and all are kept
pub record Unfinished (s : ReaderState) (pieces : ReadPieces) (s' : ReaderState) : Type 0 where
  pub goes_on : s.met ≡ M.Nothing
  pub unsettled : IsUnsettled (suc s.lines) (known_bytes s pieces) pieces
  pub keeps : s'.kept ≡ known_bytes s pieces

-- why a fault is answered
abbrev pub HasFault : TypeTree → Type 0 → ReaderState → ReadPieces → StreamFault → ReaderState
    → Type 0
HasFault A end s pieces S.Ended s' = s.met ≡ M.Fault
HasFault A end s pieces S.Memory s' = s.met ≡ M.Nothing
HasFault A end s pieces S.Read s' = Unfinished s pieces s'
HasFault A end s pieces S.ReadTurns s' = Unfinished s pieces s' × (s'.reads ≡ MOST_READS)
HasFault A end s pieces fault s' = (s.met ≡ M.Nothing)
    × FaultyLine A end s (known_bytes s pieces) fault

-- a fault ends the stream
pub record MeetsFault (A : TypeTree) (end : Type 0) (s : ReaderState) (pieces : ReadPieces)
    (fault : StreamFault) (s' : ReaderState) : Type 0 where
  pub ends : s'.met ≡ M.Fault
  pub same : SameLast s s'
  pub why : HasFault A end s pieces fault s'

-- What a call answers that read these pieces; `end` says that there are no more bytes.
abbrev pub IsAnswer : TypeTree → Type 0 → ReaderState → ReadPieces
    → Result (Option (ℕ × Sample)) StreamFault → ReaderState → Type 0
IsAnswer A end s pieces (Ok (Some x)) s' =
    AnswersSample A end s (known_bytes s pieces) (sample_view x) s'
IsAnswer A end s pieces (Ok None) s' = MeetsEnd end s (known_bytes s pieces) s'
IsAnswer A end s pieces (Err fault) s' = MeetsFault A end s pieces fault s'

-- A call reads these pieces of what the reader has, none where the stream has ended, and no more
-- than the next line needs; it counts its reads, and answers by these bytes and those kept before.
pub record GivesAnswer (A : TypeTree) (s : ReaderState) (has : Option (List ℕ))
    (answer : Result (Option (ℕ × Sample)) StreamFault) (s' : ReaderState)
    (has' : Option (List ℕ)) : Type 0 where
  pub pieces : ReadPieces
  pub read : Reads has pieces has'
  pub asks : AsksAsNeeded (suc s.lines) s.kept pieces
  pub ended : s.met ≢ M.Nothing → pieces ≡ []
  pub counts : s'.reads ≡ s.reads + length pieces
  pub gives : IsAnswer A (IsAtEnd has') s pieces answer s'

-- a call reads these pieces, and answers a sample by its step alone; the sample's value is then the
-- last
abbrev pub GivesStep : TypeTree → ReaderState → Option (List ℕ) → Result (Option ℕ) StreamFault
    → ReaderState → Option (List ℕ) → Type 0
GivesStep A s has (Ok (Some d)) s' has' =
    (y : Sample) × GivesAnswer A s has (Ok (Some (d, y))) s' has'
GivesStep A s has (Ok None) s' has' = GivesAnswer A s has (Ok None) s' has'
GivesStep A s has (Err fault) s' has' = GivesAnswer A s has (Err fault) s' has'

-- no bytes are needed: the stream has ended, or those that are kept settle the next line
abbrev pub SettlesNext : ReaderState → Type 0
SettlesNext s = (s.met ≢ M.Nothing) ⊎ (front_lines (suc s.lines) s.kept ≢ [])

-- The next line stands whole in the bytes that are kept, and holds a sample with the step d, which
-- is answered: its value is then the last. Nothing is read.
pub record TakesNext (A : TypeTree) (s : ReaderState) (d : ℕ) (s' : ReaderState) : Type 0 where
  pub value : Datum
  pub unread : s'.reads ≡ s.reads
  pub takes : AnswersSample A ⊥ s s.kept (d, value) s'
