-- Whole texts of one type or expression.
use Rattle.std.specs.Prelude.{◌≡◌, ◌≢◌, ◌↔◌, ℕ, ◌+◌, ◌≤◌, ◌<◌, nat_lt, false, List, [], ◌∷◌, ◌++◌, length, Result, Ok, Err, if◌then◌else◌, ⊤}
use Rattle.sample_core.specs.TypeTree.{TypeTree}
use Rattle.sample_core.specs.Spelling.{type_spelling}
use Rattle.leaf_expr.specs.Token.{PlacedToken, tokens, tokens_in, begins_word}
use Rattle.leaf_core.specs.Expression.{Expression}
use Rattle.leaf_expr.specs.Sexpr.{sexpr_spelling, depth}
use Rattle.leaf_expr.specs.Language.{Begins}
use Rattle.leaf_expr.specs.Grammar.{leaf, LeafSort, LeafTree, type_sort, expression_sort}
use Rattle.leaf_expr.specs.ReadLaws.{Stops}
use Rattle.leaf_expr.specs.Printing.{expression_sexpr, type_sexpr, InRange}
use Rattle.leaf_expr.specs.TreeReader.{Read, unfit_token, read}
use Rattle.leaf_expr.specs.declared.text_fault.ExprTextFault.{ExprTextFault}
use Rattle.leaf_expr.specs.declared.text_fault.ExprTextFault.TheVariants.{Syntax, TooLong, Memory}
use Rattle.leaf_expr.specs.declared.type_reader.TheConstants.{MOST_OPEN}
use Rattle.leaf_expr.specs.declared.expr_reader.TheConstants.{MOST_LENGTH}

-- the tree that was read, where no token follows it
abbrev pub whole : {T : Type 0} → Read T → Result T ExprTextFault
whole (Ok (t, n, [])) = Ok t
whole (Ok (t, n, x ∷ ts)) = Err (unfit_token MOST_OPEN x)
whole (Err e) = Err e

-- the tree of the sort that the text is, or its first fault
abbrev pub read_text : (s : LeafSort) → List ℕ → Result (LeafTree s) ExprTextFault
read_text s bs = if nat_lt MOST_LENGTH (length bs) then Err TooLong
    else whole (read leaf (length bs) MOST_OPEN s (tokens bs))

-- the text is one tree of the sort, with at most 600 parentheses open at once, in at most 1,048,576
-- bytes
pub record IsText (s : LeafSort) (bs : List ℕ) (t : LeafTree s) : Type 0 where
  pub short : length bs ≤ MOST_LENGTH
  pub stop : ℕ
  pub begins : Begins leaf MOST_OPEN s t (tokens bs) stop []

-- why the bytes are no one tree: none stands at their front, or a token stands behind it
pub data NoText (s : LeafSort) (bs : List ℕ) (e : ExprTextFault) : Type 0 where
  no_tree : Stops leaf (length bs) MOST_OPEN s (tokens bs) e → NoText s bs e
  follows : (t : LeafTree s) (n : ℕ) (x : PlacedToken) (after : List PlacedToken)
      → Begins leaf MOST_OPEN s t (tokens bs) n (x ∷ after) → e ≡ Syntax x.0 → NoText s bs e

-- why the bytes are no text of the sort; `Memory` says nothing of them
abbrev pub IsTextFault : (s : LeafSort) → List ℕ → ExprTextFault → Type 0
IsTextFault s bs Memory = ⊤
IsTextFault s bs TooLong = MOST_LENGTH < length bs
IsTextFault s bs e = (length bs ≤ MOST_LENGTH) × NoText s bs e

-- the reader of whole texts answers exactly the texts of a tree
abbrev pub ReadTextLaw : Type 0
ReadTextLaw = (s : LeafSort) (bs : List ℕ) (t : LeafTree s)
    → (read_text s bs ≡ Ok t → IsText s bs t) × (IsText s bs t → read_text s bs ≡ Ok t)

-- a text has one reading
abbrev pub OneTextLaw : Type 0
OneTextLaw = (s : LeafSort) (bs : List ℕ) (t u : LeafTree s) → IsText s bs t → IsText s bs u → t ≡ u

-- a fault is answered if and only if it tells why the text is no tree
abbrev pub TextFaultLaw : Type 0
TextFaultLaw = (s : LeafSort) (bs : List ℕ) (e : ExprTextFault) → e ≢ Memory
    → read_text s bs ≡ Err e ↔ IsTextFault s bs e

-- a printed expression is read again before any bytes that do not go on its last word
abbrev pub PrintedLaw : Type 0
PrintedLaw = (e : Expression) (room n : ℕ) (bs : List ℕ) → InRange e
    → depth (expression_sexpr e) ≤ room → begins_word bs ≡ false
    → (let end = n + length (sexpr_spelling (expression_sexpr e)) in
    Begins leaf room expression_sort e (tokens_in false n (sexpr_spelling (expression_sexpr e) ++ bs)) end
    (tokens_in false end bs))

-- a printed type is read again before any bytes that do not go on its last word
abbrev pub PrintedTypeLaw : Type 0
PrintedTypeLaw = (t : TypeTree) (room n : ℕ) (bs : List ℕ) → depth (type_sexpr t) ≤ room
    → begins_word bs ≡ false
    → (let end = n + length (type_spelling t) in
    Begins leaf room type_sort t (tokens_in false n (type_spelling t ++ bs)) end
    (tokens_in false end bs))

-- a printed expression is a text of it
abbrev pub PrintedTextLaw : Type 0
PrintedTextLaw = (e : Expression) → InRange e → depth (expression_sexpr e) ≤ MOST_OPEN
    → length (sexpr_spelling (expression_sexpr e)) ≤ MOST_LENGTH
    → read_text expression_sort (sexpr_spelling (expression_sexpr e)) ≡ Ok e
