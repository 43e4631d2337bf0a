-- The C that each file has: how it is used, its beginning, and the declarations of what a program calls.
use Rattle.std.specs.Prelude.{ℕ, Bool, true, false, List, [], ◌∷◌, ◌++◌, codes}
use Rattle.code_text.specs.Piece.{Piece, text, name, number, hex, pieces_text}

-- who sees to what a step takes
abbrev pub promised : Bool → List ℕ
promised true = codes "The caller sees to both.\n"
promised false = codes "Else the step\n * does nothing, and returns false.\n"

-- how a program uses the file, in the comment; its step is unchecked or not
abbrev pub use_pieces : Bool → List Piece
use_pieces unchecked =
    text (codes "\n * struct ") ∷ name
    ∷ text (codes "_state state;                     all the memory that there is\n * ") ∷ name
    ∷ text (codes "_init(&state);                           before the first sample, and to start anew\n * ")
    ∷ name
    ∷ text (codes "_step(&state, dt, &input, &output);      at each sample\n *\n * dt is the time since the sample before, at least 1; at the first sample it is not looked at.\n * Lists of the input have at most as many elements as their arrays. ")
    ∷ text (promised unchecked) ∷ []

-- the beginning of the declarations, with a fingerprint, and the bytes that the state has at most
abbrev pub opening_pieces : ℕ → ℕ → List Piece
opening_pieces sum bytes =
    text (codes "#ifndef ") ∷ name ∷ text (codes "_h\n#define ") ∷ name
    ∷ text (codes "_h\n\n#include <stdbool.h>\n#include <stdint.h>\n\n/* The sum of the comment above, so that only a header and a file of the same one link. */\n#define ")
    ∷ name ∷ text (codes "_init ") ∷ name ∷ text (codes "_init_") ∷ hex sum
    ∷ text (codes "\n#define ") ∷ name ∷ text (codes "_step ") ∷ name ∷ text (codes "_step_") ∷ hex sum
    ∷ text (codes "\n#define ") ∷ name ∷ text (codes "_STATE_BYTES ") ∷ number bytes
    ∷ text (codes "\n") ∷ []

-- no compiler takes a state that has more bytes than that
abbrev pub bounded_pieces : List Piece
bounded_pieces =
    text (codes "typedef char ") ∷ name ∷ text (codes "_state_fits[(sizeof(struct ") ∷ name
    ∷ text (codes "_state) <= ") ∷ name ∷ text (codes "_STATE_BYTES) ? 1 : -1];\n") ∷ []

-- what a step returns
abbrev pub returned : Bool → List ℕ
returned true = codes "void "
returned false = codes "bool "

-- what a program calls: what makes a state before the first sample, and a step
abbrev pub init_head : List Piece
init_head =
    text (codes "void ") ∷ name ∷ text (codes "_init(struct ") ∷ name ∷ text (codes "_state *state)")
    ∷ []

abbrev pub step_head : Bool → List Piece
step_head unchecked =
    text (returned unchecked) ∷ name ∷ text (codes "_step(struct ") ∷ name
    ∷ text (codes "_state *state, int64_t dt, const ") ∷ name ∷ text (codes "_input *input, ")
    ∷ name ∷ text (codes "_output *output)") ∷ []

-- they are declared, for C++ too
abbrev pub prototypes_text : List ℕ → Bool → List ℕ
prototypes_text P unchecked =
    codes "\n#ifdef __cplusplus\nextern \"C\" {\n#endif\n"
    ++ (pieces_text P init_head
    ++ (codes ";\n"
    ++ (pieces_text P (step_head unchecked)
    ++ pieces_text P (text (codes ";\n#ifdef __cplusplus\n}\n#endif\n\n#endif\n") ∷ []))))
