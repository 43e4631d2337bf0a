-- What the code's pieces are.
use Rattle.sample_core.specs.TypeView.{type_of}
use Rattle.code_text.specs.Piece as S
use Rattle.code_text.specs.declared.piece.Piece.{Piece}
use Rattle.code_text.specs.declared.piece.Piece.TheVariants as V

-- the piece that a `Piece` is
abbrev pub piece_of : Piece → S.Piece
piece_of (V.Text s) = S.text s.now
piece_of V.Name = S.name
piece_of (V.Number n) = S.number n
piece_of (V.Hex n) = S.hex n
piece_of (V.Type T) = S.ty (type_of T.now)
piece_of (V.Letters T) = S.letter (type_of T.now)
piece_of (V.Spelt T) = S.spelt (type_of T.now)
