-- The C of the filter round a network: a reader of each type of its input, a writer of each of its
-- output, and `main`.
use Rattle.std.specs.Prelude.{ℕ, Bool, true, false, ◌&&◌, ◌||◌, if◌then◌else◌, List, [], ◌∷◌, ◌++◌, codes}
use Rattle.sample_core.specs.TypeTree.{TypeTree, unit_ty, bool_ty, int_ty, pair_ty, event_ty, list_ty}
use Rattle.leaf_core.specs.TypeLimits.{same_tree}
use Rattle.code_text.specs.declared.filter_text.TheConstants.{HEAD, TAIL}
use Rattle.code_text.specs.Piece.{Piece, text, name, number, ty, letter, pieces_text}
use Rattle.code_text.specs.NamedText.{named_text}

-- whether a type is this one or a part of it
abbrev pub is_part : TypeTree → TypeTree → Bool
is_part T unit_ty = same_tree T unit_ty
is_part T bool_ty = same_tree T bool_ty
is_part T int_ty = same_tree T int_ty
is_part T (pair_ty A B) = same_tree T (pair_ty A B) || (is_part T A || is_part T B)
is_part T (event_ty A) = same_tree T (event_ty A) || is_part T A
is_part T (list_ty A) = same_tree T (list_ty A) || is_part T A

-- whether a type has parts
abbrev pub has_parts : TypeTree → Bool
has_parts unit_ty = false
has_parts bool_ty = false
has_parts int_ty = false
has_parts T = true

-- the reader of a type
abbrev pub reader_head : TypeTree → List Piece
reader_head T =
    text (codes "\nstatic bool ") ∷ name ∷ text (codes "_read_") ∷ letter T ∷ text (codes "(struct ")
    ∷ name ∷ text (codes "_reader *r, ") ∷ ty T ∷ text (codes " *v)\n{\n") ∷ []

-- its lines; a list has at most so many elements
abbrev pub reading_pieces : ℕ → TypeTree → List Piece
reading_pieces most (pair_ty A B) =
    text (codes "    return ") ∷ name ∷ text (codes "_word(r, 'P', \"(pair\", 5) && ") ∷ name
    ∷ text (codes "_byte(r, ' ') && ") ∷ name ∷ text (codes "_read_") ∷ letter A
    ∷ text (codes "(r, &v->a)\n        && ") ∷ name ∷ text (codes "_byte(r, ' ') && ") ∷ name
    ∷ text (codes "_read_") ∷ letter B ∷ text (codes "(r, &v->b) && ") ∷ name
    ∷ text (codes "_byte(r, ')');\n") ∷ []
reading_pieces most (event_ty A) =
    text (codes "    v->is = ") ∷ name
    ∷ text (codes "_is_word(r, \"(event\", 6);\n    if (v->is) {\n        return ") ∷ name
    ∷ text (codes "_byte(r, ' ') && ") ∷ name ∷ text (codes "_read_") ∷ letter A
    ∷ text (codes "(r, &v->v) && ") ∷ name ∷ text (codes "_byte(r, ')');\n    }\n    return ") ∷ name
    ∷ text (codes "_word(r, 'E', \"none\", 4);\n") ∷ []
reading_pieces most (list_ty A) =
    text (codes "    if (!") ∷ name
    ∷ text
    (codes "_word(r, 'L', \"(list\", 5)) {\n        return false;\n    }\n    for (v->n = 0; *r->at != ')'; v->n++) {\n        if (!")
    ∷ name ∷ text (codes "_byte(r, ' ') || !") ∷ name ∷ text (codes "_room(r, v->n, ") ∷ number most
    ∷ text (codes ") || !") ∷ name ∷ text (codes "_read_") ∷ letter A
    ∷ text
    (codes "(r, &v->e[v->n])) {\n            return false;\n        }\n    }\n    r->at++;\n    return true;\n")
    ∷ []
reading_pieces most T = []

-- the function
abbrev pub reader_text : List ℕ → ℕ → TypeTree → List ℕ
reader_text P most T =
    pieces_text P (reader_head T)
    ++ (pieces_text P (reading_pieces most T) ++ pieces_text P (text (codes "}\n") ∷ []))

-- where a type has parts, and U has it
unfoldable pub reader_if : List ℕ → ℕ → TypeTree → TypeTree → List ℕ
reader_if P most U T = if has_parts T && is_part T U then reader_text P most T else []

-- the readers of the types that U has
abbrev pub readers_text : List ℕ → ℕ → TypeTree → List TypeTree → List ℕ
readers_text P most U [] = []
readers_text P most U (T ∷ Ts) = reader_if P most U T ++ readers_text P most U Ts

-- the writer of a type
abbrev pub writer_head : TypeTree → List Piece
writer_head T =
    text (codes "\nstatic void ") ∷ name ∷ text (codes "_put_") ∷ letter T ∷ text (codes "(const ")
    ∷ ty T ∷ text (codes " *v)\n{\n") ∷ []

-- its lines
abbrev pub writing_pieces : TypeTree → List Piece
writing_pieces (pair_ty A B) =
    text (codes "    ") ∷ name ∷ text (codes "_put(\"(pair \", 6);\n    ") ∷ name
    ∷ text (codes "_put_") ∷ letter A ∷ text (codes "(&v->a);\n    ") ∷ name
    ∷ text (codes "_put(\" \", 1);\n    ") ∷ name ∷ text (codes "_put_") ∷ letter B
    ∷ text (codes "(&v->b);\n    ") ∷ name ∷ text (codes "_put(\")\", 1);\n") ∷ []
writing_pieces (event_ty A) =
    text (codes "    if (v->is) {\n        ") ∷ name
    ∷ text (codes "_put(\"(event \", 7);\n        ") ∷ name ∷ text (codes "_put_") ∷ letter A
    ∷ text (codes "(&v->v);\n        ") ∷ name
    ∷ text (codes "_put(\")\", 1);\n    } else {\n        ") ∷ name
    ∷ text (codes "_put(\"none\", 4);\n    }\n") ∷ []
writing_pieces (list_ty A) =
    text (codes "    ") ∷ name
    ∷ text
    (codes "_put(\"(list\", 5);\n    for (uint32_t i = 0; i < v->n; i++) {\n        ")
    ∷ name ∷ text (codes "_put(\" \", 1);\n        ") ∷ name ∷ text (codes "_put_") ∷ letter A
    ∷ text (codes "(&v->e[i]);\n    }\n    ") ∷ name ∷ text (codes "_put(\")\", 1);\n") ∷ []
writing_pieces T = []

-- the function
abbrev pub writer_text : List ℕ → TypeTree → List ℕ
writer_text P T =
    pieces_text P (writer_head T)
    ++ (pieces_text P (writing_pieces T) ++ pieces_text P (text (codes "}\n") ∷ []))

-- where a type has parts, and U has it
abbrev pub writer_if : List ℕ → TypeTree → TypeTree → List ℕ
writer_if P U T = if has_parts T && is_part T U then writer_text P T else []

-- the writers of the types that U has
abbrev pub writers_text : List ℕ → TypeTree → List TypeTree → List ℕ
writers_text P U [] = []
writers_text P U (T ∷ Ts) = writer_if P U T ++ writers_text P U Ts

-- how a sample's input, of type A, is read, and its output, of type B, written
abbrev pub sample_pieces : TypeTree → TypeTree → List Piece
sample_pieces A B =
    text (codes "\nstatic bool ") ∷ name ∷ text (codes "_read_input(struct ") ∷ name
    ∷ text (codes "_reader *r, ") ∷ name ∷ text (codes "_input *input)\n{\n    return ") ∷ name
    ∷ text (codes "_read_") ∷ letter A ∷ text (codes "(r, input);\n}\n\nstatic void ") ∷ name
    ∷ text (codes "_put_output(const ") ∷ name ∷ text (codes "_output *output)\n{\n    ") ∷ name
    ∷ text (codes "_put_") ∷ letter B ∷ text (codes "(output);\n}\n") ∷ []

-- the filter of a network from A to B, of these types
abbrev pub filter_text : List ℕ → List TypeTree → TypeTree → TypeTree → ℕ → List ℕ
filter_text P Ts A B most =
    named_text P HEAD.now
    ++ (readers_text P most A Ts
    ++ (writers_text P B Ts ++ (pieces_text P (sample_pieces A B) ++ named_text P TAIL.now)))
