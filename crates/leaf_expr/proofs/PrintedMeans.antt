-- A printed tree means itself, and its words are words.
use Rattle.std.proofs.Common.{◌≡◌, ℕ, ◌≤◌, true, false, nat_eq, List, [], ◌∷◌, refl, ap, ◌∙◌, arith, Some, ℤ, w64, FitsSigned}
use Rattle.std.specs.Fmt.{decimal, signed_decimal}
use Rattle.sample_core.specs.TypeTree.{TypeTree, unit_ty, bool_ty, int_ty, pair_ty, event_ty, list_ty}
use Rattle.leaf_core.specs.Expression.{Expression, Expressions, input, param, unit_expr, bool_expr, int_expr, pair_expr, fst, snd, then_expr, neg, add, sub, mul, less, equal, not_expr, and_expr, or_expr, if_expr, no_event_expr, event_expr, on, list_expr, nth, len, no_more, and_then, expressions_of}
use Rattle.leaf_expr.specs.Sexpr.{atom, plain_sexpr, all_plain}
use Rattle.leaf_expr.specs.WordReading.{WordReading, reads, map_reading}
use Rattle.leaf_expr.specs.Language.{meant, make_tree, read_word, places}
use Rattle.leaf_expr.specs.Grammar.{leaf, word_at, production_at, words, productions, type_sort, expression_sort, index_sort, word_among, leaf_number_at}
use Rattle.leaf_expr.specs.Printing.{type_sexpr, expression_sexpr, expression_sexprs, InRange, AllInRange}
use Rattle.std.proofs.lemmas.Bool.{ne_eqb}
use Rattle.leaf_expr.proofs.Numbers.{natural_spelled, integer_spelled, signed_head, decimal_is_word, signed_is_word}
use Rattle.leaf_expr.specs.declared.number_reader.TheConstants.{MOST_INDEX}

-- a printed type means the type, and its words are words
type_printed : (t : TypeTree) → (meant leaf type_sort (type_sexpr t) ≡ Some t) × (plain_sexpr (type_sexpr t) ≡ true)
unfolding word_at words production_at productions
type_printed unit_ty = (refl, refl)
type_printed bool_ty = (refl, refl)
type_printed int_ty = (refl, refl)
type_printed (pair_ty a b) = let i = type_printed a in let j = type_printed b in (rw (i.0, j.0) refl, rw (i.1, j.1) refl)
type_printed (event_ty a) = let i = type_printed a in (rw i.0 refl, rw i.1 refl)
type_printed (list_ty a) = let i = type_printed a in (rw i.0 refl, rw i.1 refl)

pub type_means : (t : TypeTree) → meant leaf type_sort (type_sexpr t) ≡ Some t
type_means t = (type_printed t).0

pub type_plain : (t : TypeTree) → plain_sexpr (type_sexpr t) ≡ true
type_plain t = (type_printed t).1

pub index_means : (n : ℕ) → n ≤ MOST_INDEX → meant leaf index_sort (atom (decimal n)) ≡ Some n
unfolding word_at words
index_means n h = ap read_word (natural_spelled 0 MOST_INDEX n (omega arith) h (omega arith))

-- the words of an expression begin with a letter
low_word : (d : ℕ) (ds : List ℕ) (r : WordReading Expression) → d ≤ 57 → word_among (d ∷ ds) (words expression_sort) r ≡ r
unfolding words
low_word d ds r h =
    let a : nat_eq d 120 ≡ false = ne_eqb d 120 (λ e. omega arith) in
    let b : nat_eq d 117 ≡ false = ne_eqb d 117 (λ e. omega arith) in
    let c : nat_eq d 116 ≡ false = ne_eqb d 116 (λ e. omega arith) in
    let f : nat_eq d 102 ≡ false = ne_eqb d 102 (λ e. omega arith) in
    rw (a, b, c, f) refl

not_among : (z : ℤ) → FitsSigned w64 z → word_at expression_sort (signed_decimal z) ≡ reads (int_expr z)
unfolding word_at
not_among z f =
    let h : (d : ℕ) × (es : List ℕ) × (signed_decimal z ≡ d ∷ es) × (d ≤ 57) = signed_head z f in
    ap (λ w. word_among w (words expression_sort) (leaf_number_at expression_sort (signed_decimal z))) h.2
    ∙ low_word h.0 h.1 (leaf_number_at expression_sort (signed_decimal z)) h.3 ∙ ap (map_reading int_expr) (integer_spelled z f)

-- the elements of a list expression as a list
items : Expressions → List Expression
items no_more = []
items (and_then e es) = e ∷ items es

items_are : (es : Expressions) → expressions_of (items es) ≡ es
unfolding items
items_are no_more = refl
items_are (and_then e es) = ap (and_then e) (items_are es)

-- a printed expression means the expression, and its words are words
mutual
  unfolding word_at words production_at productions items

  printed : (e : Expression) → InRange e → (meant leaf expression_sort (expression_sexpr e) ≡ Some e) × (plain_sexpr (expression_sexpr e) ≡ true)
  printed input r = (refl, refl)
  printed (param k) r = (let i : meant leaf index_sort (atom (decimal k)) ≡ Some k = index_means k r in rw i refl, rw (decimal_is_word k (omega arith)) refl)
  printed unit_expr r = (refl, refl)
  printed (bool_expr true) r = (refl, refl)
  printed (bool_expr false) r = (refl, refl)
  printed (int_expr n) r = (ap read_word (not_among n r), signed_is_word n r)
  printed (fst a) r = let i = printed a r in (rw i.0 refl, rw i.1 refl)
  printed (snd a) r = let i = printed a r in (rw i.0 refl, rw i.1 refl)
  printed (neg a) r = let i = printed a r in (rw i.0 refl, rw i.1 refl)
  printed (not_expr a) r = let i = printed a r in (rw i.0 refl, rw i.1 refl)
  printed (event_expr a) r = let i = printed a r in (rw i.0 refl, rw i.1 refl)
  printed (len a) r = let i = printed a r in (rw i.0 refl, rw i.1 refl)
  printed (pair_expr a b) r = let i = printed a r.0 in let j = printed b r.1 in (rw (i.0, j.0) refl, rw (i.1, j.1) refl)
  printed (then_expr a b) r = let i = printed a r.0 in let j = printed b r.1 in (rw (i.0, j.0) refl, rw (i.1, j.1) refl)
  printed (add a b) r = let i = printed a r.0 in let j = printed b r.1 in (rw (i.0, j.0) refl, rw (i.1, j.1) refl)
  printed (sub a b) r = let i = printed a r.0 in let j = printed b r.1 in (rw (i.0, j.0) refl, rw (i.1, j.1) refl)
  printed (mul a b) r = let i = printed a r.0 in let j = printed b r.1 in (rw (i.0, j.0) refl, rw (i.1, j.1) refl)
  printed (less a b) r = let i = printed a r.0 in let j = printed b r.1 in (rw (i.0, j.0) refl, rw (i.1, j.1) refl)
  printed (equal a b) r = let i = printed a r.0 in let j = printed b r.1 in (rw (i.0, j.0) refl, rw (i.1, j.1) refl)
  printed (and_expr a b) r = let i = printed a r.0 in let j = printed b r.1 in (rw (i.0, j.0) refl, rw (i.1, j.1) refl)
  printed (or_expr a b) r = let i = printed a r.0 in let j = printed b r.1 in (rw (i.0, j.0) refl, rw (i.1, j.1) refl)
  printed (if_expr a b c) r = let i = printed a r.0 in let j = printed b r.1 in let k = printed c r.2 in (rw (i.0, j.0, k.0) refl, rw (i.1, j.1, k.1) refl)
  printed (on a b c) r = let i = printed a r.0 in let j = printed b r.1 in let k = printed c r.2 in (rw (i.0, j.0, k.0) refl, rw (i.1, j.1, k.1) refl)
  printed (nth a b c) r = let i = printed a r.0 in let j = printed b r.1 in let k = printed c r.2 in (rw (i.0, j.0, k.0) refl, rw (i.1, j.1, k.1) refl)
  printed (no_event_expr t) r = (rw (type_means t) refl, rw (type_plain t) refl)
  printed (list_expr t es) r =
      let h = list_printed es r in
      (rw (type_means t) (h.0 (λ xs. list_expr t (expressions_of xs)) ∙ ap (λ xs. Some (list_expr t xs)) (items_are es)), rw (type_plain t) h.1)

  list_printed : (es : Expressions) → AllInRange es →
      ((make : List Expression → Expression) → make_tree leaf expression_sort (places expression_sort) make (expression_sexprs es) ≡ Some (make (items es)))
      × (all_plain (expression_sexprs es) ≡ true)
  list_printed no_more r = (λ make. refl, refl)
  list_printed (and_then e es) r =
      let i = printed e r.0 in
      let h = list_printed es r.1 in
      (λ make. rw i.0 (h.0 (λ xs. make (e ∷ xs))), rw i.1 h.1)

pub expression_means : (e : Expression) → InRange e → meant leaf expression_sort (expression_sexpr e) ≡ Some e
expression_means e r = (printed e r).0

pub expression_plain : (e : Expression) → InRange e → plain_sexpr (expression_sexpr e) ≡ true
expression_plain e r = (printed e r).1
