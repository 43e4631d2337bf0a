-- Both sides of a law have one value, at typed parameters and inputs.
use Rattle.std.proofs.Common.{◌≡◌, ℕ, zero, suc, pos, int_lt, ◌-ℤ◌, ◌&&◌, ◌||◌, ◌+ℤ◌, ◌*ℤ◌, neg_ℤ, not, List, refl, sym, ap, ◌∙◌, w64, ◌∷◌}
use Rattle.std.specs.Int.{int_wrap}
use Rattle.std.proofs.lemmas.Int.{int_wrap-add_left, int_wrap-add_right, int_wrap-mul_left, int_wrap-mul_right}
use Rattle.std.proofs.Math.IntN.{+ℤ_comm, +ℤ_assoc, *ℤ_comm}
use Rattle.std.proofs.Math.Bool.{and_comm, or_comm, not-not}
use Rattle.sample_core.specs.Datum.{Datum, pair, bool, int, event, list, left, right, int_of, list_of}
use Rattle.sample_core.specs.TypeTree.{TypeTree, bool_ty, int_ty, pair_ty, event_ty}
use Rattle.sample_core.specs.HasType.{HasType, pair_has, TypedParams}
use Rattle.leaf_core.specs.Expression.{Expression, Expressions, pair_expr, fst, snd, neg, add, mul, not_expr, and_expr, or_expr, if_expr, on, no_more, and_then}
use Rattle.leaf_core.specs.ExpressionValue.{value_of, values_of, choose, is_true, wrap, on_event, element_at, count_of, nth_of, same_datum}
use Rattle.leaf_core.specs.ExpressionTyping.{ExpressionTyped, pair_typed, fst_typed, neg_typed, add_typed, mul_typed, not_typed, and_typed, or_typed, if_typed, on_typed}
use Rattle.leaf_core.proofs.SameDatum.{same_datum-refl, same_datum-true, Decides-same_datum, as_same_datum}
use Rattle.leaf_core.proofs.Soundness.{typed_value}
use Rattle.expr_laws.specs.ExpressionLaw.{each_then, literal_for, element_or, Spread, list_spread, HasNoPart, param_constant, OnLiterals, neg_literal, ExpressionLaw, law_e4, law_e6, law_e9, law_e12, law_e15, law_e16, law_e17, law_e18, law_e19, law_e20, law_e21, law_e22, law_e23, law_e24, law_e25, law_e26, law_e27, law_e28, law_e29, law_e30, law_e31, law_e32, law_e33, law_e34, law_e35, law_e36, law_e37, law_e38, law_e39, law_e40, law_e41, law_e42, law_e43, law_e44, law_e45, law_e46, law_e47, law_e48, law_e49, law_e50, law_e51, law_e52, law_e53, law_e54, law_e55, Turned, and_true, and_false, or_true, or_false, and_turned, or_turned, Compared, equal_same, equal_turned, FirstIf, here, later, two_of, three_of, Lifted, fst_lifted, snd_lifted, neg_lifted, not_lifted, event_lifted, len_lifted, then_lifted, pair_lifted, add_lifted, sub_lifted, mul_lifted, less_lifted, equal_lifted, and_lifted, or_lifted, on_lifted, if_lifted, nth_lifted, list_lifted}
use Rattle.expr_laws.proofs.Products.{*ℤ-+ℤ, *ℤ_assoc}
use Rattle.expr_laws.proofs.Sums.{sum_with_zero, product_with_one, product_with_zero, twice_opposite, opposite_of_sum, opposite_of_product, sum_with_opposite, not_less}
use Rattle.expr_laws.proofs.Choices.{truth, choice_of, same_choice, other_choice, first_again, second_again, truth_chosen, and_chosen, or_chosen, and_itself, or_itself, and_grouped, or_grouped, and_not, or_not, not_and, not_or, and_over_or, answer_of, answer_to_answer, same_event, same_answer}

values_of_each : (f : Expression) (es : Expressions) (ps : List Datum) (x : Datum) → values_of es ps (value_of f ps x) ≡ values_of (each_then f es) ps x
values_of_each f no_more ps x = refl
values_of_each f (and_then e es) ps x = ap (λ vs. value_of e ps (value_of f ps x) ∷ vs) (values_of_each f es ps x)

spread_value : {f o r : Expression} → Spread f o r → (ps : List Datum) (x : Datum) → value_of o ps (value_of f ps x) ≡ value_of r ps x
spread_value {f = f} (list_spread {e = e} {es = es}) ps x = ap (λ vs. list (list_of vs)) (values_of_each f (and_then e es) ps x)
spread_value _ ps x = refl

constant_value : {k : Expression} → HasNoPart k → (ps : List Datum) (x y : Datum) → value_of k ps x ≡ value_of k ps y
constant_value param_constant ps x y = refl
constant_value _ ps x y = refl

literal_value : {o : Expression} → OnLiterals o → (ps qs : List Datum) (x y : Datum) → value_of o ps x ≡ value_of (literal_for (value_of o qs y)) ps x
literal_value neg_literal ps qs x y = refl
literal_value _ ps qs x y = refl

-- a pair's parts make it up
parts_of_pair : {A B : TypeTree} {v : Datum} → HasType v (pair_ty A B) → pair (left v) (right v) ≡ v
parts_of_pair (pair_has h k) = refl

typed_as_pair : {e : Expression} {Ps : List TypeTree} {A B : TypeTree} → ExpressionTyped (pair_expr (fst e) (snd e)) Ps A B
    → (C : TypeTree) × (D : TypeTree) × ExpressionTyped e Ps A (pair_ty C D)
typed_as_pair (pair_typed (fst_typed {B = C} {C = D} h) k) = (C, D, h)

element_value : (es : Expressions) (n : ℕ) (d : Expression) (ps : List Datum) (x : Datum) → nth_of (list_of (values_of es ps x)) n (value_of d ps x) ≡ value_of (element_or es n d) ps x
element_value no_more n d ps x = refl
element_value (and_then e es) zero d ps x = refl
element_value (and_then e es) (suc n) d ps x = element_value es n d ps x

turned_value : {o r : Expression} → Turned o r → (Ps : List TypeTree) (A B : TypeTree) → ExpressionTyped o Ps A B → (ps : List Datum) (x : Datum) → TypedParams Ps ps → HasType x A
    → value_of o ps x ≡ value_of r ps x
turned_value (and_true {b = e}) Ps A B (and_typed h k) ps x i j = truth (typed_value e Ps A bool_ty k ps x i j)
turned_value and_false Ps A B h ps x i j = refl
turned_value or_true Ps A B h ps x i j = refl
turned_value (or_false {b = e}) Ps A B (or_typed h k) ps x i j = truth (typed_value e Ps A bool_ty k ps x i j)
turned_value (and_turned {a = a} {b = b} q) Ps A B h ps x i j = ap bool (and_comm (is_true (value_of a ps x)) (is_true (value_of b ps x)))
turned_value (or_turned {a = a} {b = b} q) Ps A B h ps x i j = ap bool (or_comm (is_true (value_of a ps x)) (is_true (value_of b ps x)))

compared_value : {o r : Expression} → Compared o r → (ps : List Datum) (x : Datum) → value_of o ps x ≡ value_of r ps x
compared_value (equal_same {a = a}) ps x = ap bool (same_datum-refl (value_of a ps x))
compared_value (equal_turned {a = a} {b = b} q) ps x =
    let v = value_of a ps x in
    let w = value_of b ps x in
    ap bool (as_same_datum (same_datum v w) w v (λ e. sym (same_datum-true v w e), λ e. (Decides-same_datum v w).1 (sym e)))

twice_not : {e : Expression} {Ps : List TypeTree} {A B : TypeTree} → ExpressionTyped (not_expr (not_expr e)) Ps A B → ExpressionTyped e Ps A bool_ty
twice_not (not_typed (not_typed h)) = h

-- what is made of two expressions' values, the first of which that is an `if` is lifted
two_value : {c d e l m r s : Expression} → FirstIf c (two_of d e) (two_of l m) (two_of r s) → (f : Datum → Datum → Datum) (ps : List Datum) (x : Datum)
    → f (value_of d ps x) (value_of e ps x) ≡ choose (is_true (value_of c ps x)) (f (value_of l ps x) (value_of m ps x)) (f (value_of r ps x) (value_of s ps x))
two_value {c = c} {e = e} (here {a = a} {b = b}) f ps x = choice_of (λ v. f v (value_of e ps x)) (is_true (value_of c ps x)) (value_of a ps x) (value_of b ps x)
two_value {c = c} {d = d} (later q (here {a = a} {b = b})) f ps x = choice_of (f (value_of d ps x)) (is_true (value_of c ps x)) (value_of a ps x) (value_of b ps x)
two_value (later q (later p i)) f ps x = elim i [ ]

-- the same of three
three_value : {c d e g l m n r s t : Expression} → FirstIf c (three_of d e g) (three_of l m n) (three_of r s t) → (f : Datum → Datum → Datum → Datum) (ps : List Datum) (x : Datum)
    → f (value_of d ps x) (value_of e ps x) (value_of g ps x)
    ≡ choose (is_true (value_of c ps x)) (f (value_of l ps x) (value_of m ps x) (value_of n ps x)) (f (value_of r ps x) (value_of s ps x) (value_of t ps x))
three_value {c = c} {e = e} {g = g} (here {a = a} {b = b}) f ps x =
    choice_of (λ v. f v (value_of e ps x) (value_of g ps x)) (is_true (value_of c ps x)) (value_of a ps x) (value_of b ps x)
three_value {c = c} {d = d} {g = g} (later q (here {a = a} {b = b})) f ps x =
    choice_of (λ v. f (value_of d ps x) v (value_of g ps x)) (is_true (value_of c ps x)) (value_of a ps x) (value_of b ps x)
three_value {c = c} {d = d} {e = e} (later q (later p (here {a = a} {b = b}))) f ps x =
    choice_of (f (value_of d ps x) (value_of e ps x)) (is_true (value_of c ps x)) (value_of a ps x) (value_of b ps x)
three_value (later q (later p (later o i))) f ps x = elim i [ ]

-- the same of elements
all_value : {c : Expression} {es ls rs : Expressions} → FirstIf c es ls rs → (f : List Datum → Datum) (ps : List Datum) (x : Datum)
    → f (values_of es ps x) ≡ choose (is_true (value_of c ps x)) (f (values_of ls ps x)) (f (values_of rs ps x))
all_value {c = c} (here {a = a} {b = b} {es = es}) f ps x = choice_of (λ v. f (v ∷ values_of es ps x)) (is_true (value_of c ps x)) (value_of a ps x) (value_of b ps x)
all_value (later {e = e} q i) f ps x = all_value i (λ vs. f (value_of e ps x ∷ vs)) ps x

lifted_value : {o r : Expression} → Lifted o r → (ps : List Datum) (x : Datum) → value_of o ps x ≡ value_of r ps x
lifted_value (fst_lifted {c = c} {a = a} {b = b}) ps x = choice_of left (is_true (value_of c ps x)) (value_of a ps x) (value_of b ps x)
lifted_value (snd_lifted {c = c} {a = a} {b = b}) ps x = choice_of right (is_true (value_of c ps x)) (value_of a ps x) (value_of b ps x)
lifted_value (neg_lifted {c = c} {a = a} {b = b}) ps x = choice_of (λ v. wrap (neg_ℤ (int_of v))) (is_true (value_of c ps x)) (value_of a ps x) (value_of b ps x)
lifted_value (not_lifted {c = c} {a = a} {b = b}) ps x = choice_of (λ v. bool (not (is_true v))) (is_true (value_of c ps x)) (value_of a ps x) (value_of b ps x)
lifted_value (event_lifted {c = c} {a = a} {b = b}) ps x = choice_of event (is_true (value_of c ps x)) (value_of a ps x) (value_of b ps x)
lifted_value (len_lifted {c = c} {a = a} {b = b}) ps x = choice_of (λ v. wrap (pos (count_of v))) (is_true (value_of c ps x)) (value_of a ps x) (value_of b ps x)
lifted_value (then_lifted {c = c} {a = a} {b = b} {g = g}) ps x = choice_of (value_of g ps) (is_true (value_of c ps x)) (value_of a ps x) (value_of b ps x)
lifted_value (pair_lifted i) ps x = two_value i pair ps x
lifted_value (add_lifted i) ps x = two_value i (λ v w. wrap (int_of v +ℤ int_of w)) ps x
lifted_value (sub_lifted i) ps x = two_value i (λ v w. wrap (int_of v -ℤ int_of w)) ps x
lifted_value (mul_lifted i) ps x = two_value i (λ v w. wrap (int_of v *ℤ int_of w)) ps x
lifted_value (less_lifted i) ps x = two_value i (λ v w. bool (int_lt (int_of v) (int_of w))) ps x
lifted_value (equal_lifted i) ps x = two_value i (λ v w. bool (same_datum v w)) ps x
lifted_value (and_lifted i) ps x = two_value i (λ v w. bool (is_true v && is_true w)) ps x
lifted_value (or_lifted i) ps x = two_value i (λ v w. bool (is_true v || is_true w)) ps x
lifted_value (on_lifted {g = g} i) ps x = two_value i (λ v w. on_event v w (λ u. value_of g ps (pair x u))) ps x
lifted_value (if_lifted i) ps x = three_value i (λ u v w. choose (is_true u) v w) ps x
lifted_value (nth_lifted i) ps x = three_value i (λ u v w. element_at u (int_of v) w) ps x
lifted_value (list_lifted i) ps x = all_value i (λ vs. list (list_of vs)) ps x

-- the types of parts
summands : {a b : Expression} {Ps : List TypeTree} {A B : TypeTree} → ExpressionTyped (add a b) Ps A B → ExpressionTyped a Ps A int_ty
summands (add_typed h k) = h

factors : {a b : Expression} {Ps : List TypeTree} {A B : TypeTree} → ExpressionTyped (mul a b) Ps A B → ExpressionTyped a Ps A int_ty
factors (mul_typed h k) = h

twice_neg : {a : Expression} {Ps : List TypeTree} {A B : TypeTree} → ExpressionTyped (neg (neg a)) Ps A B → ExpressionTyped a Ps A int_ty
twice_neg (neg_typed (neg_typed h)) = h

both_hold : {a b : Expression} {Ps : List TypeTree} {A B : TypeTree} → ExpressionTyped (and_expr a b) Ps A B → ExpressionTyped a Ps A bool_ty × ExpressionTyped b Ps A bool_ty
both_hold (and_typed h k) = (h, k)

one_holds : {a b : Expression} {Ps : List TypeTree} {A B : TypeTree} → ExpressionTyped (or_expr a b) Ps A B → ExpressionTyped a Ps A bool_ty × ExpressionTyped b Ps A bool_ty
one_holds (or_typed h k) = (h, k)

tested : {c a b : Expression} {Ps : List TypeTree} {A B : TypeTree} → ExpressionTyped (if_expr c a b) Ps A B → ExpressionTyped c Ps A bool_ty
tested (if_typed h k m) = h

with_event : {e d b : Expression} {Ps : List TypeTree} {A B : TypeTree} → ExpressionTyped (on e d b) Ps A B → (V : TypeTree) × ExpressionTyped e Ps A (event_ty V)
with_event (on_typed {V = V} h k m) = (V, h)

pub side_value : (n : ℕ) (l r : Expression) → ExpressionLaw n l r → (Ps : List TypeTree) (A B : TypeTree) → ExpressionTyped l Ps A B → (ps : List Datum) (x : Datum) → TypedParams Ps ps
    → HasType x A → value_of l ps x ≡ value_of r ps x
side_value n l r (law_e4 s) Ps A B h ps x i j = spread_value s ps x
side_value n l r (law_e6 {f = f} c) Ps A B h ps x i j = constant_value c ps (value_of f ps x) x
side_value n l r (law_e9 {e = e}) Ps A B h ps x i j = let t = typed_as_pair h in parts_of_pair (typed_value e Ps A (pair_ty t.0 t.1) t.2 ps x i j)
side_value n l r (law_e12 {c = c} {e = e}) Ps A B h ps x i j = same_choice (is_true (value_of c ps x)) (value_of e ps x)
side_value n l r (law_e15 c) Ps A B h ps x i j = literal_value c ps _ x _
side_value n l r (law_e16 {a = a} {b = b}) Ps A B h ps x i j = ap wrap (+ℤ_comm (int_of (value_of a ps x)) (int_of (value_of b ps x)))
side_value n l r (law_e17 {a = a} {b = b} {c = c}) Ps A B h ps x i j =
    let m = int_of (value_of a ps x) in
    let n = int_of (value_of b ps x) in
    let o = int_of (value_of c ps x) in
    ap int (int_wrap-add_left w64 (m +ℤ n) o ∙ ap (int_wrap w64) (+ℤ_assoc m n o) ∙ sym (int_wrap-add_right w64 m (n +ℤ o)))
side_value n l r (law_e18 {e = e} {es = es} {i = pos m} {d = d}) Ps A B h ps x i j = element_value (and_then e es) m d ps x
side_value n l r (law_e19 {a = a} {b = b}) Ps A B h ps x i j = sym (ap int (int_wrap-add_right w64 (int_of (value_of a ps x)) (neg_ℤ (int_of (value_of b ps x)))))
side_value n l r (law_e20 {a = a} {b = b}) Ps A B h ps x i j = ap wrap (*ℤ_comm (int_of (value_of a ps x)) (int_of (value_of b ps x)))
side_value n l r (law_e21 {a = a} {b = b} {c = c}) Ps A B h ps x i j =
    let m = int_of (value_of a ps x) in
    let n = int_of (value_of b ps x) in
    let o = int_of (value_of c ps x) in
    ap int (int_wrap-mul_left w64 (m *ℤ n) o ∙ ap (int_wrap w64) (*ℤ_assoc m n o) ∙ sym (int_wrap-mul_right w64 m (n *ℤ o)))
side_value n l r (law_e22 {a = a} {b = b} {c = c}) Ps A B h ps x i j =
    let m = int_of (value_of a ps x) in
    let n = int_of (value_of b ps x) in
    let o = int_of (value_of c ps x) in
    ap int
    (int_wrap-mul_right w64 m (n +ℤ o) ∙ ap (int_wrap w64) (*ℤ-+ℤ m n o)
    ∙ sym (int_wrap-add_left w64 (m *ℤ n) (int_wrap w64 (m *ℤ o)) ∙ int_wrap-add_right w64 (m *ℤ n) (m *ℤ o)))
side_value n l r (law_e23 t) Ps A B h ps x i j = turned_value t Ps A B h ps x i j
side_value n l r (law_e24 {a = a}) Ps A B h ps x i j = ap bool (not-not (is_true (value_of a ps x))) ∙ truth (typed_value a Ps A bool_ty (twice_not h) ps x i j)
side_value n l r (law_e25 {c = c} {a = a} {b = b}) Ps A B h ps x i j = other_choice (is_true (value_of c ps x)) (value_of a ps x) (value_of b ps x)
side_value n l r (law_e26 c) Ps A B h ps x i j = compared_value c ps x
side_value n l r (law_e27 {a = a}) Ps A B h ps x i j = sum_with_zero (typed_value a Ps A int_ty (summands h) ps x i j)
side_value n l r (law_e28 {a = a}) Ps A B h ps x i j = product_with_one (typed_value a Ps A int_ty (factors h) ps x i j)
side_value n l r (law_e29 {a = a}) Ps A B h ps x i j = product_with_zero (int_of (value_of a ps x))
side_value n l r (law_e30 {a = a}) Ps A B h ps x i j = twice_opposite (typed_value a Ps A int_ty (twice_neg h) ps x i j)
side_value n l r (law_e31 {a = a} {b = b}) Ps A B h ps x i j = opposite_of_sum (int_of (value_of a ps x)) (int_of (value_of b ps x))
side_value n l r (law_e32 {a = a} {b = b}) Ps A B h ps x i j = opposite_of_product (int_of (value_of a ps x)) (int_of (value_of b ps x))
side_value n l r (law_e33 {a = a}) Ps A B h ps x i j = sum_with_opposite (int_of (value_of a ps x))
side_value n l r (law_e34 {a = a}) Ps A B h ps x i j = ap bool (not_less (int_of (value_of a ps x)))
side_value n l r (law_e35 {a = a}) Ps A B h ps x i j = ap bool (and_itself (is_true (value_of a ps x))) ∙ truth (typed_value a Ps A bool_ty (both_hold h).0 ps x i j)
side_value n l r (law_e36 {a = a}) Ps A B h ps x i j = ap bool (or_itself (is_true (value_of a ps x))) ∙ truth (typed_value a Ps A bool_ty (one_holds h).0 ps x i j)
side_value n l r (law_e37 {a = a} {b = b} {c = c}) Ps A B h ps x i j = ap bool (and_grouped (is_true (value_of a ps x)) (is_true (value_of b ps x)) (is_true (value_of c ps x)))
side_value n l r (law_e38 {a = a} {b = b} {c = c}) Ps A B h ps x i j = ap bool (or_grouped (is_true (value_of a ps x)) (is_true (value_of b ps x)) (is_true (value_of c ps x)))
side_value n l r (law_e39 {a = a}) Ps A B h ps x i j = ap bool (and_not (is_true (value_of a ps x)))
side_value n l r (law_e40 {a = a}) Ps A B h ps x i j = ap bool (or_not (is_true (value_of a ps x)))
side_value n l r (law_e41 {a = a} {b = b}) Ps A B h ps x i j = ap bool (not_and (is_true (value_of a ps x)) (is_true (value_of b ps x)))
side_value n l r (law_e42 {a = a} {b = b}) Ps A B h ps x i j = ap bool (not_or (is_true (value_of a ps x)) (is_true (value_of b ps x)))
side_value n l r (law_e43 {a = a} {b = b} {c = c}) Ps A B h ps x i j = ap bool (and_over_or (is_true (value_of a ps x)) (is_true (value_of b ps x)) (is_true (value_of c ps x)))
side_value n l r (law_e44 {c = c}) Ps A B h ps x i j = truth_chosen (is_true (value_of c ps x)) ∙ truth (typed_value c Ps A bool_ty (tested h) ps x i j)
side_value n l r (law_e45 {a = a} {b = b}) Ps A B h ps x i j = and_chosen (is_true (value_of a ps x)) (typed_value b Ps A bool_ty (both_hold h).1 ps x i j)
side_value n l r (law_e46 {a = a} {b = b}) Ps A B h ps x i j = or_chosen (is_true (value_of a ps x)) (typed_value b Ps A bool_ty (one_holds h).1 ps x i j)
side_value n l r (law_e47 {c = c} {a = a} {b = b} {d = d}) Ps A B h ps x i j = first_again (is_true (value_of c ps x)) (value_of a ps x) (value_of b ps x) (value_of d ps x)
side_value n l r (law_e48 {c = c} {a = a} {b = b} {d = d}) Ps A B h ps x i j = second_again (is_true (value_of c ps x)) (value_of a ps x) (value_of b ps x) (value_of d ps x)
side_value n l r (law_e49 c) Ps A B h ps x i j = lifted_value c ps x
side_value n l r (law_e50 {e = e} {d = d} {b = b} {g = g} {h = f}) Ps A B h ps x i j =
    answer_to_answer (value_of e ps x) (value_of d ps x) (value_of g ps x) (λ u. value_of b ps (pair x u)) (λ u. value_of f ps (pair x u))
side_value n l r (law_e51 {e = e}) Ps A B h ps x i j = let t = with_event h in same_event x (typed_value e Ps A (event_ty t.0) t.1 ps x i j)
side_value n l r (law_e52 {e = e} {d = d}) Ps A B h ps x i j = same_answer (value_of e ps x) (value_of d ps x)
side_value n l r (law_e53 {e = e} {d = d} {b = b} {f = f}) Ps A B h ps x i j =
    answer_of (value_of f ps) (value_of e ps x) (value_of d ps x) (λ u. value_of b ps (pair x u))
side_value n l r (law_e54 {e = e} {d = d} {b = b} {f = f}) Ps A B h ps x i j =
    answer_of (λ v. pair v (value_of f ps x)) (value_of e ps x) (value_of d ps x) (λ u. value_of b ps (pair x u))
side_value n l r (law_e55 {f = f} {e = e} {d = d} {b = b}) Ps A B h ps x i j =
    answer_of (pair (value_of f ps x)) (value_of e ps x) (value_of d ps x) (λ u. value_of b ps (pair x u))
side_value n l r _ Ps A B h ps x i j = refl
