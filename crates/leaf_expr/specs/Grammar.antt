-- The grammar of types and expressions: a table of words, and a table of forms.
use Rattle.std.specs.Prelude.{ℕ, true, false, Bool, List, [], ◌∷◌, ◌++◌, Option, bytes_eq, codes, if◌then◌else◌}
use Rattle.sample_core.specs.TypeTree.{TypeTree, unit_ty, bool_ty, int_ty, pair_ty, event_ty, list_ty}
use Rattle.leaf_expr.specs.WordReading.{WordReading, reads, unfit, integer_at, natural_at, map_reading}
use Rattle.leaf_core.specs.Expression.{Expression, input, param, unit_expr, bool_expr, int_expr, pair_expr, fst, snd, then_expr, neg, add, sub, mul, less, equal, not_expr, and_expr, or_expr, if_expr, no_event_expr, event_expr, on, list_expr, nth, len, expressions_of}
use Rattle.leaf_expr.specs.Language.{Language, Places, Maker, Production, no_place, place, places, production_among}
use Rattle.leaf_expr.specs.declared.number_reader.TheConstants.{MOST_INDEX}

-- what stands at a place: a type, an expression, or the number of a parameter
pub data LeafSort : Type 0 where
  type_sort : LeafSort
  expression_sort : LeafSort
  index_sort : LeafSort

-- what is read at a place of each sort
abbrev pub LeafTree : LeafSort → Type 0
LeafTree type_sort = TypeTree
LeafTree expression_sort = Expression
LeafTree index_sort = ℕ

-- a type as the next part
abbrev pub t : Places LeafSort → Places LeafSort
t ps = place type_sort ps

-- an expression as the next part
abbrev pub e : Places LeafSort → Places LeafSort
e ps = place expression_sort ps

-- the number of a parameter as the next part
abbrev pub k : Places LeafSort → Places LeafSort
k ps = place index_sort ps

-- words that are a tree by themselves
unfoldable pub words : (s : LeafSort) → List (List ℕ × LeafTree s)
words type_sort = (codes "Unit", unit_ty) ∷ (codes "Bool", bool_ty) ∷ (codes "Int", int_ty) ∷ []
words expression_sort = (codes "x", input) ∷ (codes "unit", unit_expr)
    ∷ (codes "true", bool_expr true) ∷ (codes "false", bool_expr false) ∷ []
words index_sort = []

-- a production of the grammar: the word of a form, its parts, and the tree that they make
abbrev pub production : {R : Type 0} → (w : List ℕ) → (ps : Places LeafSort) → Maker LeafTree ps R
    → Production LeafSort LeafTree R
production w ps make = record { name = w; takes = ps; makes = make }

-- the forms of types
abbrev pub type_productions : List (Production LeafSort LeafTree TypeTree)
type_productions = production (codes "Pair") (t (t no_place)) pair_ty
    ∷ production (codes "Event") (t no_place) event_ty
    ∷ production (codes "List") (t no_place) list_ty ∷ []

-- a parameter, no event of a type, and a list of elements of a type
abbrev pub other_productions : List (Production LeafSort LeafTree Expression)
other_productions =
    production (codes "p") (k no_place) param
    ∷ production (codes "none") (t no_place) no_event_expr
    ∷ production (codes "list") (t (places expression_sort))
    (λ T es. list_expr T (expressions_of es))
    ∷ []

-- the forms of one expression
abbrev pub unary_productions : List (Production LeafSort LeafTree Expression)
unary_productions =
    production (codes "fst") (e no_place) fst
    ∷ production (codes "snd") (e no_place) snd
    ∷ production (codes "neg") (e no_place) neg
    ∷ production (codes "not") (e no_place) not_expr
    ∷ production (codes "event") (e no_place) event_expr
    ∷ production (codes "len") (e no_place) len
    ∷ []

-- the forms of two expressions, the sugar last
abbrev pub binary_productions : List (Production LeafSort LeafTree Expression)
binary_productions =
    production (codes "pair") (e (e no_place)) pair_expr
    ∷ production (codes "then") (e (e no_place)) then_expr
    ∷ production (codes "add") (e (e no_place)) add
    ∷ production (codes "sub") (e (e no_place)) sub
    ∷ production (codes "mul") (e (e no_place)) mul
    ∷ production (codes "less") (e (e no_place)) less
    ∷ production (codes "equal") (e (e no_place)) equal
    ∷ production (codes "and") (e (e no_place)) and_expr
    ∷ production (codes "or") (e (e no_place)) or_expr
    ∷ production (codes "lMerge") (e (e no_place)) (λ a b. on a b (event_expr (snd input)))
    ∷ []

-- the forms of three expressions
abbrev pub ternary_productions : List (Production LeafSort LeafTree Expression)
ternary_productions = production (codes "if") (e (e (e no_place))) if_expr
    ∷ production (codes "on") (e (e (e no_place))) on
    ∷ production (codes "nth") (e (e (e no_place))) nth ∷ []

-- the sugar of a type and two expressions
abbrev pub typed_productions : List (Production LeafSort LeafTree Expression)
typed_productions =
    production (codes "gate") (t (e (e no_place))) (λ T a b. if_expr b a (no_event_expr T))
    ∷ production (codes "tag") (t (e (e no_place)))
    (λ T a c. on a (no_event_expr T) (event_expr (then_expr (fst input) c)))
    ∷ production (codes "attach") (t (e (e no_place)))
    (λ T a c. on a (no_event_expr T)
    (event_expr (pair_expr (snd input) (then_expr (fst input) c))))
    ∷ []

-- forms: the word, the parts, and the tree that they make
unfoldable pub productions : (s : LeafSort) → List (Production LeafSort LeafTree (LeafTree s))
productions type_sort = type_productions
productions expression_sort = other_productions ++ unary_productions ++ binary_productions
    ++ ternary_productions ++ typed_productions
productions index_sort = []

-- what a word is that no table has: an expression may be a number of 64 bits, a parameter's number
-- is at most 65,535
abbrev pub leaf_number_at : (s : LeafSort) → List ℕ → WordReading (LeafTree s)
leaf_number_at type_sort w = unfit
leaf_number_at expression_sort w = map_reading int_expr (integer_at w)
leaf_number_at index_sort w = natural_at 0 MOST_INDEX w

-- what a word is by a table of words; where the table lacks it, what is given
abbrev pub word_among : {T : Type 0} → List ℕ → List (List ℕ × T) → WordReading T → WordReading T
word_among w [] r = r
word_among w (x ∷ xs) r = if bytes_eq w x.0 then reads x.1 else word_among w xs r

-- what a word is where a tree of the sort stands
unfoldable pub word_at : (s : LeafSort) → List ℕ → WordReading (LeafTree s)
word_at s w = word_among w (words s) (leaf_number_at s w)

-- the form of the sort that a word begins
unfoldable pub production_at : (s : LeafSort) → List ℕ
    → Option (Production LeafSort LeafTree (LeafTree s))
production_at s w = production_among w (productions s)

-- whether a tree of the sort may be a form, which begins with a parenthesis
abbrev pub has_form : LeafSort → Bool
has_form index_sort = false
has_form _ = true

-- whether a number may stand where a tree of the sort does
abbrev pub takes_number : LeafSort → Bool
takes_number type_sort = false
takes_number _ = true

-- the language of types and expressions
abbrev pub leaf : Language
leaf =
    record {
      Sort = LeafSort;
      Tree = LeafTree;
      word_at = word_at;
      production_at = production_at;
      has_form =
          has_form;
      takes_number = takes_number;
    }
