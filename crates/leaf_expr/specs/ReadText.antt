-- What the code's readers answer: what the reader of the grammar does on the tokens from some byte
-- on.
use Rattle.std.specs.Prelude.{ℕ, Bool, true, false, List, [], ◌∷◌, length, slice_range, map, Result, Ok, Err, Option, Some, None, ⊤}
use Rattle.sample_core.specs.TypeTree.{TypeTree}
use Rattle.sample_core.specs.TypeView.{type_of}
use Rattle.sample_core.specs.declared.ty.Ty.{Ty}
use Rattle.leaf_core.specs.Expression.{Expression}
use Rattle.leaf_core.specs.ExpressionView.{expression_of}
use Rattle.leaf_core.specs.declared.expr.Expr.{Expr}
use Rattle.leaf_expr.specs.Token.{PlacedToken, closing, tokens_from}
use Rattle.leaf_expr.specs.WordReading.{WordReading, reads, misspelt, unfit, natural_at}
use Rattle.leaf_expr.specs.declared.word.WordFault.{WordFault}
use Rattle.leaf_expr.specs.declared.word.WordFault.TheVariants as W
use Rattle.leaf_expr.specs.Grammar.{leaf, LeafTree, LeafSort, expression_sort, e, word_at}
use Rattle.leaf_expr.specs.TreeReader.{Read, word_read, read, read_head, read_form, read_parts, read_all}
use Rattle.leaf_expr.specs.Language.{Production, no_place, place}
use Rattle.leaf_expr.specs.ReadLaws.{Stops}
use Rattle.leaf_expr.specs.declared.text_fault.ExprTextFault.{ExprTextFault}
use Rattle.sample_core.specs.Answer.{◌>>=◌, GivesUnless}
use Rattle.leaf_expr.specs.declared.text_fault.ExprTextFault.TheVariants.{TooLong, Memory}

-- what a call returned, seen by view, is what reading gives, unless memory ran out
abbrev pub GivesTree : {X Y : Type 0} → (X → Y) → Result X ExprTextFault → Result Y ExprTextFault
    → Type 0
GivesTree view result read = GivesUnless Memory view result read

-- a tree of the sort in the text from byte n on, with room for so many more parentheses
abbrev pub tree_at : (s : LeafSort) → List ℕ → ℕ → ℕ → Read (LeafTree s)
tree_at s text room n = read leaf (length text) room s (tokens_from n text)

-- a natural number from low to high in the text from byte n on, with room for so many more
-- parentheses
abbrev pub natural_read : ℕ → ℕ → List ℕ → ℕ → ℕ → Read ℕ
natural_read low high text room n = read_head leaf (length text) room (tokens_from n text)
    >>= (λ h. word_read h.0 h.1 h.2 (natural_at low high h.1))

-- a type, the byte behind it, and the tokens from there on
abbrev pub type_left : List ℕ → Ty × ℕ → TypeTree × ℕ × List PlacedToken
type_left text x = (type_of x.0, x.1, tokens_from x.1 text)

-- an expression, the byte behind it, and the tokens from there on
abbrev pub expression_left : List ℕ → Expr × ℕ → Expression × ℕ × List PlacedToken
expression_left text x = (expression_of x.0, x.1, tokens_from x.1 text)

-- the tree of the sort that the word is from byte n up to and without byte m
abbrev pub word_tree : (s : LeafSort) → List ℕ → ℕ → ℕ → Read (LeafTree s)
word_tree s text n m = word_read n (slice_range text n m) (tokens_from m text)
    (word_at s (slice_range text n m))

-- what is read behind the parenthesis of a form, in the text from byte n on
abbrev pub form_at : (s : LeafSort) → List ℕ → ℕ → ℕ → Read (LeafTree s)
form_at s text room n = read_form leaf (length text) (read leaf (length text) room) room s
    (tokens_from n text)

-- the parts of a form and its end, in the text from byte n on
abbrev pub production_parts : {R : Type 0} → Production LeafSort LeafTree R → List ℕ → ℕ → ℕ
    → Read R
production_parts r text room n =
    read_parts leaf (length text) (read leaf (length text) room) room r.takes
    r.makes (tokens_from n text)

-- the last part of a form, a tree of the sort, and the form's end, in the text from byte n on
abbrev pub last_at : (s : LeafSort) → List ℕ → ℕ → ℕ → Read (LeafTree s)
last_at s text room n = read_parts leaf (length text) (read leaf (length text) room) room
    (place s no_place) (λ t. t) (tokens_from n text)

-- the last two parts of a form, which are expressions, and its end, in the text from byte n on
abbrev pub last_two_at : List ℕ → ℕ → ℕ → Read (Expression × Expression)
last_two_at text room n = read_parts leaf (length text) (read leaf (length text) room) room
    (e (e no_place)) (λ a b. (a, b)) (tokens_from n text)

-- the elements of a list up to the end of the form, in the text from byte n on
abbrev pub items_at : List ℕ → ℕ → ℕ → Read (List Expression)
items_at text room n = read_all leaf (length text) (read leaf (length text) room expression_sort)
    (length (tokens_from n text)) (λ xs. xs) (tokens_from n text)

-- the elements as trees, the byte behind them, and the tokens from there on
abbrev pub items_left : List ℕ → List Expr × ℕ → List Expression × ℕ × List PlacedToken
items_left text x = (map expression_of x.0, x.1, tokens_from x.1 text)

-- what a word is in a table of words alone
abbrev pub fit : {T : Type 0} → Option T → WordReading T
fit None = unfit
fit (Some x) = reads x

-- what the code found a word to be
abbrev pub word_reading : {X Y : Type 0} → (X → Y) → Result X WordFault → WordReading Y
word_reading view (Ok x) = reads (view x)
word_reading view (Err W.Misspelt) = misspelt
word_reading view (Err W.Unfit) = unfit

-- the first token closes a form
abbrev pub begins_closing : List PlacedToken → Bool
begins_closing [] = false
begins_closing ((n, closing) ∷ ts) = true
begins_closing (x ∷ ts) = false

-- Why no tree of the sort stands in the text from byte n on, with room for so many parentheses: the
-- first token that doesn't fit, or the end. `TooLong` doesn't come, and `Memory` says nothing of
-- the text.
abbrev pub IsFault : (s : LeafSort) → List ℕ → ℕ → ℕ → ExprTextFault → Type 0
IsFault s text room n Memory = ⊤
IsFault s text room n TooLong = ⊥
IsFault s text room n f = Stops leaf (length text) room s (tokens_from n text) f
