use Rattle.std.proofs.Common.{◌≡◌, ◌++◌, map, drop, string_bytes}
use Rattle.code_text.specs.Piece.{pieces_text}
use Rattle.code_text.specs.PieceView.{piece_of}
use Rattle.code_text.proofs.piece.push.Given as goal

-- what stands there, with the pieces to come, is the whole
abbrev pub invariant-loop-piece : goal.invariant-loop-piece
invariant-loop-piece l =
    string_bytes l.text ++ pieces_text l.prefix (map piece_of (drop l.piece-index l.pieces))
    ≡ string_bytes l.initial.text ++ pieces_text l.prefix (map piece_of l.pieces)
