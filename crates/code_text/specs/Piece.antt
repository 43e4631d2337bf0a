-- Pieces of C, and their text. P is the prefix of all of a network's names.
use Rattle.std.specs.Prelude.{ℕ, ◌-◌, ◌^◌, false, List, [], ◌∷◌, ◌++◌, codes}
use Rattle.std.specs.Fmt.{decimal, digits, format_spec, padded_integral}
use Rattle.sample_core.specs.TypeTree.{TypeTree, unit_ty, bool_ty, int_ty, pair_ty, event_ty, list_ty}
use Rattle.sample_core.specs.Spelling.{type_spelling}

-- the letters of a type: u, b and i of values without parts, p of pairs, e of events, l of lists
abbrev pub letters : TypeTree → List ℕ
letters unit_ty = codes "u"
letters bool_ty = codes "b"
letters int_ty = codes "i"
letters (pair_ty A B) = codes "p" ++ (letters A ++ letters B)
letters (event_ty A) = codes "e" ++ letters A
letters (list_ty A) = codes "l" ++ letters A

-- the struct of a type
abbrev pub struct_of : List ℕ → TypeTree → List ℕ
struct_of P T = codes "struct " ++ (P ++ (codes "_" ++ letters T))

-- a type in C
abbrev pub c_type : List ℕ → TypeTree → List ℕ
c_type P unit_ty = codes "uint8_t"
c_type P bool_ty = codes "bool"
c_type P int_ty = codes "int64_t"
c_type P T = struct_of P T

-- a number of 64 bits as 16 hexadecimal digits
abbrev pub sixteen_digits : ℕ → List ℕ
sixteen_digits n = padded_integral (format_spec 32 0 4 16 (2 ^ 64 - 1)) false [] (digits 16 false n)

-- a piece of C
pub data Piece : Type 0 where
  -- these bytes
  text : List ℕ → Piece
  -- the prefix
  name : Piece
  number : ℕ → Piece
  hex : ℕ → Piece
  -- a type in C, its letters, and as the language spells it
  ty : TypeTree → Piece
  letter : TypeTree → Piece
  spelt : TypeTree → Piece

-- the text of a piece
abbrev pub piece_text : List ℕ → Piece → List ℕ
piece_text P (text s) = s
piece_text P name = P
piece_text P (number n) = decimal n
piece_text P (hex n) = sixteen_digits n
piece_text P (ty T) = c_type P T
piece_text P (letter T) = letters T
piece_text P (spelt T) = type_spelling T

-- pieces, one behind the other
abbrev pub pieces_text : List ℕ → List Piece → List ℕ
pieces_text P [] = []
pieces_text P (p ∷ ps) = piece_text P p ++ pieces_text P ps
