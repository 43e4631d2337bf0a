-- The code's forms as productions of the grammar.
use Rattle.std.specs.Prelude.{ℕ, List, codes}
use Rattle.sample_core.specs.TypeTree.{TypeTree, pair_ty, event_ty, list_ty}
use Rattle.leaf_core.specs.Expression.{Expression, input, param, pair_expr, fst, snd, then_expr, neg, add, sub, mul, less, equal, not_expr, and_expr, or_expr, if_expr, no_event_expr, event_expr, on, list_expr, nth, len, expressions_of}
use Rattle.leaf_expr.specs.Language.{Production, no_place, places}
use Rattle.leaf_expr.specs.Grammar.{LeafSort, LeafTree, expression_sort, production, t, e, k}
use Rattle.leaf_expr.specs.declared.form.TypeForm.{TypeForm}
use Rattle.leaf_expr.specs.declared.form.TypeForm.TheVariants as T
use Rattle.leaf_expr.specs.declared.form.Unary.{Unary}
use Rattle.leaf_expr.specs.declared.form.Unary.TheVariants as U
use Rattle.leaf_expr.specs.declared.form.Binary.{Binary}
use Rattle.leaf_expr.specs.declared.form.Binary.TheVariants as B
use Rattle.leaf_expr.specs.declared.form.Ternary.{Ternary}
use Rattle.leaf_expr.specs.declared.form.Ternary.TheVariants as R
use Rattle.leaf_expr.specs.declared.form.Typed.{Typed}
use Rattle.leaf_expr.specs.declared.form.Typed.TheVariants as Y
use Rattle.leaf_expr.specs.declared.form.ExprForm.{ExprForm}
use Rattle.leaf_expr.specs.declared.form.ExprForm.TheVariants as F

-- a form of types as its production of the grammar
abbrev pub type_production : TypeForm → Production LeafSort LeafTree TypeTree
type_production T.Pair = production (codes "Pair") (t (t no_place)) pair_ty
type_production T.Event = production (codes "Event") (t no_place) event_ty
type_production T.List = production (codes "List") (t no_place) list_ty

-- the word of a form of one expression
abbrev pub unary_name : Unary → List ℕ
unary_name U.Fst = codes "fst"
unary_name U.Snd = codes "snd"
unary_name U.Neg = codes "neg"
unary_name U.Not = codes "not"
unary_name U.Event = codes "event"
unary_name U.Len = codes "len"

-- what a form of one expression makes of it
abbrev pub unary_of : Unary → Expression → Expression
unary_of U.Fst = fst
unary_of U.Snd = snd
unary_of U.Neg = neg
unary_of U.Not = not_expr
unary_of U.Event = event_expr
unary_of U.Len = len

-- the word of a form of two expressions
abbrev pub binary_name : Binary → List ℕ
binary_name B.Pair = codes "pair"
binary_name B.Then = codes "then"
binary_name B.Add = codes "add"
binary_name B.Sub = codes "sub"
binary_name B.Mul = codes "mul"
binary_name B.Less = codes "less"
binary_name B.Equal = codes "equal"
binary_name B.And = codes "and"
binary_name B.Or = codes "or"
binary_name B.Merge = codes "lMerge"

-- what a form of two expressions makes of them
abbrev pub binary_of : Binary → Expression → Expression → Expression
binary_of B.Pair = pair_expr
binary_of B.Then = then_expr
binary_of B.Add = add
binary_of B.Sub = sub
binary_of B.Mul = mul
binary_of B.Less = less
binary_of B.Equal = equal
binary_of B.And = and_expr
binary_of B.Or = or_expr
binary_of B.Merge = λ a b. on a b (event_expr (snd input))

-- the word of a form of three expressions
abbrev pub ternary_name : Ternary → List ℕ
ternary_name R.If = codes "if"
ternary_name R.On = codes "on"
ternary_name R.Nth = codes "nth"

-- what a form of three expressions makes of them
abbrev pub ternary_of : Ternary → Expression → Expression → Expression → Expression
ternary_of R.If = if_expr
ternary_of R.On = on
ternary_of R.Nth = nth

-- the word of a form of a type and two expressions
abbrev pub typed_name : Typed → List ℕ
typed_name Y.Gate = codes "gate"
typed_name Y.Tag = codes "tag"
typed_name Y.Attach = codes "attach"

-- what a form of a type and two expressions makes of no event of the type, and of them
abbrev pub typed_by : Typed → Expression → Expression → Expression → Expression
typed_by Y.Gate = λ n a b. if_expr b a n
typed_by Y.Tag = λ n a c. on a n (event_expr (then_expr (fst input) c))
typed_by Y.Attach = λ n a c. on a n (event_expr (pair_expr (snd input) (then_expr (fst input) c)))

-- a form of one expression as its production of the grammar
abbrev pub unary_production : Unary → Production LeafSort LeafTree Expression
unary_production f = production (unary_name f) (e no_place) (unary_of f)

-- a form of two expressions as its production of the grammar
abbrev pub binary_production : Binary → Production LeafSort LeafTree Expression
binary_production f = production (binary_name f) (e (e no_place)) (binary_of f)

-- a form of three expressions as its production of the grammar
abbrev pub ternary_production : Ternary → Production LeafSort LeafTree Expression
ternary_production f = production (ternary_name f) (e (e (e no_place))) (ternary_of f)

-- a form of a type and two expressions as its production of the grammar
abbrev pub typed_production : Typed → Production LeafSort LeafTree Expression
typed_production f = production (typed_name f) (t (e (e no_place)))
    (λ T. typed_by f (no_event_expr T))

-- a form of expressions as its production of the grammar
abbrev pub form_production : ExprForm → Production LeafSort LeafTree Expression
form_production F.Param = production (codes "p") (k no_place) param
form_production F.NoEvent = production (codes "none") (t no_place) no_event_expr
form_production F.List = production (codes "list") (t (places expression_sort))
    (λ T es. list_expr T (expressions_of es))
form_production (F.Unary f) = unary_production f
form_production (F.Binary f) = binary_production f
form_production (F.Ternary f) = ternary_production f
form_production (F.Typed f) = typed_production f
