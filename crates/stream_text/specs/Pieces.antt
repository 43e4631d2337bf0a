-- The pieces that reads give.
use Rattle.std.specs.Prelude.{◌≡◌, ◌<◌, ◌≤◌, ℕ, List, [], ◌∷◌, ◌++◌, length, Option, Some, None, ⊤}
use Rattle.std.specs.Io.KnownBytes.{Consumes, IsAtEnd, Keeps}
use Rattle.stream_text.specs.declared.kept.Piece.{Piece}
use Rattle.stream_text.specs.declared.kept.Piece.TheVariants as P
use Rattle.stream_text.specs.declared.kept.TheConstants.{PIECE}

-- The bytes that a reader has left, and those that are kept of it, before a read and after it: what
-- it gave is kept behind the others; at the end that is nothing.
abbrev pub KeepsPiece : Option (List ℕ) → Option (List ℕ) → List ℕ → List ℕ → Piece → Type 0
KeepsPiece has has' kept kept' P.Bytes = (got : List ℕ) × (kept' ≡ kept ++ got)
    × (0 < length got) × (length got ≤ PIECE) × Consumes has has' got
KeepsPiece has has' kept kept' P.End = (kept' ≡ kept) × Keeps has has' × IsAtEnd has'
KeepsPiece has has' kept kept' P.Failed = (kept' ≡ kept) × Keeps has has'

-- what reads gave, in order, each a piece: bytes, none at the end; or `None`, where it failed
abbrev pub ReadPieces : Type 0
ReadPieces = List (Option (List ℕ))

-- the bytes of a piece
abbrev pub piece_bytes : Option (List ℕ) → List ℕ
piece_bytes None = []
piece_bytes (Some bytes) = bytes

-- the bytes of all pieces, one behind the other
abbrev pub bytes_read : ReadPieces → List ℕ
bytes_read [] = []
bytes_read (piece ∷ later) = piece_bytes piece ++ bytes_read later

-- A piece has at most 4,096 bytes, and none only at the end, behind which nothing is read; `end`
-- says that it was met.
abbrev pub ArePieces : Type 0 → ReadPieces → Type 0
ArePieces end [] = ⊤
ArePieces end (None ∷ later) = ArePieces end later
ArePieces end (Some [] ∷ later) = end × (later ≡ [])
ArePieces end (Some bytes ∷ later) = (length bytes ≤ PIECE) × ArePieces end later

-- Reads gave these pieces of the bytes that a reader had. Where none was made, it is as it was.
pub record Reads (has : Option (List ℕ)) (pieces : ReadPieces) (has' : Option (List ℕ)) : Type 0
  where
    pub consumes : Consumes has has' (bytes_read pieces)
    pub are : ArePieces (IsAtEnd has') pieces
    pub unread : pieces ≡ [] → has' ≡ has

-- So many reads gave these bytes; `end` says that they met the end.
pub record ReadBy (end : Type 0) (bytes : List ℕ) (reads : ℕ) : Type 0 where
  pub pieces : ReadPieces
  pub are : ArePieces end pieces
  pub parts : bytes ≡ bytes_read pieces
  pub counts : reads ≡ length pieces
