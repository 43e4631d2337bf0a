-- Each form of the grammar, read once, and the sugar in terms of the core forms.
use Rattle.std.specs.Prelude.{◌≡◌, ℕ, true, false, List, [], ◌∷◌, Ok, Err, codes, pos, negsuc}
use Rattle.sample_core.specs.TypeTree.{TypeTree, unit_ty, bool_ty, int_ty, pair_ty, event_ty, list_ty}
use Rattle.leaf_core.specs.Expression.{Expression, input, param, unit_expr, bool_expr, int_expr, pair_expr, fst, snd, then_expr, neg, add, sub, mul, less, equal, not_expr, and_expr, or_expr, if_expr, no_event_expr, event_expr, on, list_expr, nth, len, no_more, and_then}
use Rattle.leaf_expr.specs.Token.{opening, word, tokens}
use Rattle.leaf_expr.specs.Sexpr.{Sexpr, atom}
use Rattle.leaf_expr.specs.Language.{meant}
use Rattle.leaf_expr.specs.Grammar.{leaf, type_sort, expression_sort}
use Rattle.leaf_expr.specs.Printing.{one, two, three}
use Rattle.leaf_expr.specs.TreeReader.{read}
use Rattle.leaf_expr.specs.Text.{read_text}
use Rattle.leaf_expr.specs.declared.text_fault.ExprTextFault.TheVariants.{Syntax, Number, TooDeep}

-- the text is that type
abbrev pub IsType : List ℕ → TypeTree → Type 0
IsType bs t = read_text type_sort bs ≡ Ok t

-- the text is that expression
abbrev pub IsExpression : List ℕ → Expression → Type 0
IsExpression bs e = read_text expression_sort bs ≡ Ok e

-- each form of types
abbrev pub TypeRows : Type 0
TypeRows =
    IsType (codes "Unit") unit_ty
    × IsType (codes "Bool") bool_ty
    × IsType (codes "Int") int_ty
    × IsType (codes "(Pair Int Bool)") (pair_ty int_ty bool_ty)
    × IsType (codes "(Event Int)") (event_ty int_ty)
    × IsType (codes "(List Int)") (list_ty int_ty)

-- each word, numbers, and a parameter
abbrev pub WordRows : Type 0
WordRows =
    IsExpression (codes "x") input
    × IsExpression (codes "unit") unit_expr
    × IsExpression (codes "true") (bool_expr true)
    × IsExpression (codes "false") (bool_expr false)
    × IsExpression (codes "-7") (int_expr (negsuc 6))
    × IsExpression (codes "70") (int_expr (pos 70))
    × IsExpression (codes "(p 12)") (param 12)

-- each form of one part, and no event of a type
abbrev pub UnaryRows : Type 0
UnaryRows =
    IsExpression (codes "(fst x)") (fst input)
    × IsExpression (codes "(snd x)") (snd input)
    × IsExpression (codes "(neg x)") (neg input)
    × IsExpression (codes "(not x)") (not_expr input)
    × IsExpression (codes "(event x)") (event_expr input)
    × IsExpression (codes "(len x)") (len input)
    × IsExpression (codes "(none Int)") (no_event_expr int_ty)

-- each form of two expressions
abbrev pub BinaryRows : Type 0
BinaryRows =
    IsExpression (codes "(pair x unit)") (pair_expr input unit_expr)
    × IsExpression (codes "(then x unit)") (then_expr input unit_expr)
    × IsExpression (codes "(add x unit)") (add input unit_expr)
    × IsExpression (codes "(sub x unit)") (sub input unit_expr)
    × IsExpression (codes "(mul x unit)") (mul input unit_expr)
    × IsExpression (codes "(less x unit)") (less input unit_expr)
    × IsExpression (codes "(equal x unit)") (equal input unit_expr)
    × IsExpression (codes "(and x unit)") (and_expr input unit_expr)
    × IsExpression (codes "(or x unit)") (or_expr input unit_expr)

-- each form of three expressions, and lists
abbrev pub LongRows : Type 0
LongRows =
    IsExpression (codes "(if true x unit)") (if_expr (bool_expr true) input unit_expr)
    × IsExpression (codes "(on true x unit)") (on (bool_expr true) input unit_expr)
    × IsExpression (codes "(nth true x unit)") (nth (bool_expr true) input unit_expr)
    × IsExpression (codes "(list Int)") (list_expr int_ty no_more)
    × IsExpression (codes "(list Int x unit)")
    (list_expr int_ty (and_then input (and_then unit_expr no_more)))

-- sugar: `(lMerge a b)` means `(on a b (event (snd x)))`, whatever a and b are; so with the forms
-- below
abbrev pub MergeIs : Type 0
MergeIs = (a b : Sexpr)
    → meant leaf expression_sort (two (codes "lMerge") a b)
    ≡ meant leaf expression_sort
    (three (codes "on") a b (one (codes "event") (one (codes "snd") (atom (codes "x")))))

-- `(gate T e b)` means `(if b e (none T))`
abbrev pub GateIs : Type 0
GateIs = (T a b : Sexpr)
    → meant leaf expression_sort (three (codes "gate") T a b)
    ≡ meant leaf expression_sort (three (codes "if") b a (one (codes "none") T))

-- `(then (fst x) c)`
abbrev pub at_sample : Sexpr → Sexpr
at_sample c = two (codes "then") (one (codes "fst") (atom (codes "x"))) c

-- `(tag T e c)` means `(on e (none T) (event (then (fst x) c)))`
abbrev pub TagIs : Type 0
TagIs = (T a c : Sexpr)
    → meant leaf expression_sort (three (codes "tag") T a c)
    ≡ meant leaf expression_sort
    (three (codes "on") a (one (codes "none") T) (one (codes "event") (at_sample c)))

-- `(attach T e c)` means `(on e (none T) (event (pair (snd x) (then (fst x) c))))`
abbrev pub AttachIs : Type 0
AttachIs = (T a c : Sexpr)
    → meant leaf expression_sort (three (codes "attach") T a c)
    ≡ meant leaf expression_sort
    (three (codes "on") a (one (codes "none") T)
    (one (codes "event") (two (codes "pair") (one (codes "snd") (atom (codes "x"))) (at_sample c))))

-- refusals: by place and kind
abbrev pub FaultRows : Type 0
FaultRows =
    (read_text expression_sort (codes "(add x 01)") ≡ Err (Number 7))
    × (read_text expression_sort (codes "(add x -0)") ≡ Err (Number 7))
    × (read_text expression_sort (codes "(p 65536)") ≡ Err (Number 3))
    × (read_text expression_sort (codes "(p -1)") ≡ Err (Number 3))
    × (read_text expression_sort (codes "(p x)") ≡ Err (Syntax 3))
    × (read_text expression_sort (codes "9223372036854775808") ≡ Err (Number 0))
    × (read_text expression_sort (codes "(1 2)") ≡ Err (Syntax 1))
    × (read_text expression_sort (codes "(x)") ≡ Err (Syntax 1))
    × (read_text expression_sort (codes "(add x") ≡ Err (Syntax 6))
    × (read_text expression_sort (codes "x ;)\n x") ≡ Err (Syntax 6))
    × (read_text type_sort (codes "(List 5)") ≡ Err (Syntax 6))
    × (read leaf 11 1 expression_sort ((0, opening) ∷ (1, word (codes "fst")) ∷ (5, opening) ∷ [])
    ≡ Err (TooDeep 5))
    × (read leaf 23 1 expression_sort (tokens (codes "(pair (fst (fst x)) 01)")) ≡ Err (TooDeep 6))
