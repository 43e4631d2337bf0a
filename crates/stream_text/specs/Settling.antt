-- How far a reader is read to know the next line.
use Rattle.std.specs.Prelude.{◌≡◌, ◌⊎◌, ◌+◌, ℕ, true, List, [], ◌∷◌, ◌++◌, length, Option, Result, Ok, Err, ⊤}
use Rattle.std.specs.Io.KnownBytes.{IsAtEnd}
use Rattle.stream_text.specs.Pieces.{ArePieces, ReadPieces, Reads, bytes_read, piece_bytes}
use Rattle.stream_text.specs.TextLines.{IsFeedFree, IsFirstFeed, front_lines, shows_fault}
use Rattle.stream_text.specs.declared.fault.StreamFault.{StreamFault}
use Rattle.stream_text.specs.declared.fault.StreamFault.TheVariants as S
use Rattle.stream_text.specs.declared.settle.Settled.{Settled}
use Rattle.stream_text.specs.declared.settle.Settled.TheVariants as T
use Rattle.stream_text.specs.declared.settle.TheConstants.{MOST_READS}

-- line n of the kept bytes is the first so many: a line feed stands behind them, or they are all,
-- and show a fault
abbrev pub SettlesLine : ℕ → List ℕ → ℕ → Type 0
SettlesLine n kept size = IsFirstFeed kept size
    ⊎ ((size ≡ length kept) × IsFeedFree kept × (shows_fault n size ≡ true))

-- each read was made where the bytes before it, those that were kept and those of earlier reads,
-- settle no line n
abbrev pub AsksAsNeeded : ℕ → List ℕ → ReadPieces → Type 0
AsksAsNeeded n kept [] = ⊤
AsksAsNeeded n kept (piece ∷ later) = (front_lines n kept ≡ [])
    × AsksAsNeeded n (kept ++ piece_bytes piece) later

-- the bytes settle no line n, and none of the reads met the end
abbrev pub IsUnsettled : ℕ → List ℕ → ReadPieces → Type 0
IsUnsettled n bytes pieces = (front_lines n bytes ≡ []) × ArePieces ⊥ pieces

-- what the bytes tell of line n, of which the last came in these pieces, after so many reads; `end`
-- says that there are no more
abbrev pub IsSettled : Type 0 → ℕ → List ℕ → ReadPieces → ℕ → Result Settled StreamFault → Type 0
IsSettled end n kept pieces reads (Ok (T.Line size)) = SettlesLine n kept size
IsSettled end n kept pieces reads (Ok T.Last) = end × IsFeedFree kept
IsSettled end n kept pieces reads (Err S.Read) = IsUnsettled n kept pieces
IsSettled end n kept pieces reads (Err S.ReadTurns) = IsUnsettled n kept pieces × (reads ≡ MOST_READS)
IsSettled end n kept pieces reads (Err _) = ⊥

-- A reader was read, no further than line n needs. What it gave is kept behind the bytes before,
-- and its reads are counted; the answer is what the bytes tell of the line.
pub record Settles (has has' : Option (List ℕ)) (n : ℕ) (kept kept' : List ℕ) (reads reads' : ℕ)
    (answer : Result Settled StreamFault) : Type 0 where
  pub pieces : ReadPieces
  pub read : Reads has pieces has'
  pub asks : AsksAsNeeded n kept pieces
  pub keeps : kept' ≡ kept ++ bytes_read pieces
  pub counts : reads' ≡ reads + length pieces
  pub tells : IsSettled (IsAtEnd has') n kept' pieces reads' answer
