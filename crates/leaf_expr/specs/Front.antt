-- What a tree begins with: a word, or the parenthesis of a form.
use Rattle.std.specs.Prelude.{ℕ, zero, suc, ◌+◌, ◌<◌, ◌≤◌, List, [], ◌∷◌, length, slice_range, Result, Ok, Err}
use Rattle.leaf_expr.specs.Token.{opening, closing, word, PlacedToken, tokens_from}
use Rattle.leaf_expr.specs.declared.tree_front.TreeFront.{TreeFront}
use Rattle.leaf_expr.specs.declared.tree_front.TreeFront.TheVariants as F
use Rattle.leaf_expr.specs.declared.text_fault.ExprTextFault.{ExprTextFault}
use Rattle.leaf_expr.specs.declared.text_fault.ExprTextFault.TheVariants.{Syntax, TooDeep}

-- The token that a tree begins with and those behind it, in a text of so many bytes, with room for
-- so many more
-- parentheses; or why no tree begins there.
abbrev pub read_front : ℕ → ℕ → List PlacedToken
    → Result (PlacedToken × List PlacedToken) ExprTextFault
read_front size room [] = Err (Syntax size)
read_front size room ((n, word w) ∷ ts) = Ok ((n, word w), ts)
read_front size room ((n, closing) ∷ ts) = Err (Syntax n)
read_front size zero ((n, opening) ∷ ts) = Err (TooDeep n)
read_front size (suc room) ((n, opening) ∷ ts) = Ok ((n, opening), ts)

-- the same in the text from byte n on
abbrev pub front_from : List ℕ → ℕ → ℕ → Result (PlacedToken × List PlacedToken) ExprTextFault
front_from text room n = read_front (length text) room (tokens_from n text)

-- the token that the code found, and the tokens behind it
abbrev pub front_left : List ℕ → TreeFront → PlacedToken × List PlacedToken
front_left text (F.Form start) = ((start, opening), tokens_from (start + 1) text)
front_left text (F.Word start end) =
    ((start, word (slice_range text start end)), tokens_from end text)

-- what the code found is within a text of so many bytes, and a form has room
abbrev pub FrontFits : ℕ → ℕ → TreeFront → Type 0
FrontFits size room (F.Form start) = (start < size) × (0 < room)
FrontFits size room (F.Word start end) = (start < end) × (end ≤ size)
