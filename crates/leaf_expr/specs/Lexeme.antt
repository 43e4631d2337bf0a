-- The first token of a text from some byte on, as the code has it.
use Rattle.std.specs.Prelude.{◌≡◌, ℕ, ◌+◌, ◌≤◌, ◌<◌, true, List, [], ◌∷◌, length, slice_index, slice_range}
use Rattle.leaf_expr.specs.Token.{opening, closing, word, tokens_from}
use Rattle.leaf_expr.specs.Sexpr.{is_word}
use Rattle.leaf_expr.specs.declared.token.Lexeme.{Lexeme}
use Rattle.leaf_expr.specs.declared.token.Lexeme.TheVariants as V

-- The text from byte at on begins so, and it is known where the rest begins.
abbrev pub IsLexeme : List ℕ → ℕ → Lexeme → Type 0
IsLexeme text at V.End = tokens_from at text ≡ []
IsLexeme text at (V.Open start) =
    (tokens_from at text ≡ (start, opening) ∷ tokens_from (start + 1) text) × (at ≤ start)
    × (start < length text) × (slice_index text start ≡ 40)
IsLexeme text at (V.Close start) =
    (tokens_from at text ≡ (start, closing) ∷ tokens_from (start + 1) text) × (at ≤ start)
    × (start < length text) × (slice_index text start ≡ 41)
IsLexeme text at (V.Word start end) =
    (tokens_from at text ≡ (start, word (slice_range text start end)) ∷ tokens_from end text)
    × (at ≤ start) × (start < end) × (end ≤ length text)
    × (is_word (slice_range text start end) ≡ true)
