-- A typed left side's right side has its type.
use Rattle.std.proofs.Common.{◌≡◌, ℕ, zero, suc, ℤ, pos, negsuc, List, subst, w64}
use Rattle.std.proofs.lemmas.Int.{SFits-int_wrap}
use Rattle.sample_core.specs.Datum.{Datum}
use Rattle.sample_core.specs.TypeTree.{TypeTree, bool_ty, pair_ty}
use Rattle.leaf_core.specs.Expression.{Expression, Expressions}
use Rattle.leaf_core.specs.ExpressionValue.{value_of}
use Rattle.leaf_core.specs.ExpressionTyping.{ExpressionTyped, ExpressionsTyped, input_typed, param_typed, unit_typed, bool_typed, int_typed, pair_typed, fst_typed, snd_typed, then_typed, neg_typed, add_typed, sub_typed, mul_typed, less_typed, equal_typed, not_typed, and_typed, or_typed, if_typed, no_event_typed, event_typed, on_typed, list_typed, nth_typed, len_typed, no_more_typed, and_then_typed}
use Rattle.leaf_core.proofs.Uniqueness.{one_type}
use Rattle.expr_laws.proofs.Sums.{zero_fits}
use Rattle.expr_laws.specs.ExpressionLaw.{each_then, literal_for, element_or, picked, Spread, pair_spread, fst_spread, snd_spread, neg_spread, add_spread, sub_spread, mul_spread, less_spread, equal_spread, not_spread, and_spread, or_spread, if_spread, event_spread, nth_spread, len_spread, list_spread, HasNoPart, param_constant, unit_constant, bool_constant, int_constant, no_event_constant, list_constant, OnLiterals, neg_literal, add_literals, sub_literals, mul_literals, less_literals, equal_units, equal_bools, equal_ints, not_literal, and_literals, or_literals, ExpressionLaw, law_e1, law_e2, law_e3, law_e4, law_e5, law_e6, law_e7, law_e8, law_e9, law_e10, law_e11, law_e12, law_e13, law_e14, law_e15, law_e16, law_e17, law_e18, law_e19, law_e20, law_e21, law_e22, law_e23, law_e24, law_e25, law_e26, law_e27, law_e28, law_e29, law_e30, law_e31, law_e32, law_e33, law_e34, law_e35, law_e36, law_e37, law_e38, law_e39, law_e40, law_e41, law_e42, law_e43, law_e44, law_e45, law_e46, law_e47, law_e48, law_e49, law_e50, law_e51, law_e52, law_e53, law_e54, law_e55, Turned, and_true, and_false, or_true, or_false, and_turned, or_turned, Compared, equal_same, equal_turned, FirstIf, here, later, two_of, three_of, Lifted, fst_lifted, snd_lifted, neg_lifted, not_lifted, event_lifted, len_lifted, then_lifted, pair_lifted, add_lifted, sub_lifted, mul_lifted, less_lifted, equal_lifted, and_lifted, or_lifted, on_lifted, if_lifted, nth_lifted, list_lifted}

each_typed : {f : Expression} {es : Expressions} {Ps : List TypeTree} {A C T : TypeTree} → ExpressionTyped f Ps A C → ExpressionsTyped es Ps C T → ExpressionsTyped (each_then f es) Ps A T
each_typed f no_more_typed = no_more_typed
each_typed f (and_then_typed h hs) = and_then_typed (then_typed f h) (each_typed f hs)

spread_typed : {f o r : Expression} {Ps : List TypeTree} {A C B : TypeTree} → Spread f o r → ExpressionTyped f Ps A C → ExpressionTyped o Ps C B → ExpressionTyped r Ps A B
spread_typed pair_spread f (pair_typed h k) = pair_typed (then_typed f h) (then_typed f k)
spread_typed fst_spread f (fst_typed h) = fst_typed (then_typed f h)
spread_typed snd_spread f (snd_typed h) = snd_typed (then_typed f h)
spread_typed neg_spread f (neg_typed h) = neg_typed (then_typed f h)
spread_typed add_spread f (add_typed h k) = add_typed (then_typed f h) (then_typed f k)
spread_typed sub_spread f (sub_typed h k) = sub_typed (then_typed f h) (then_typed f k)
spread_typed mul_spread f (mul_typed h k) = mul_typed (then_typed f h) (then_typed f k)
spread_typed less_spread f (less_typed h k) = less_typed (then_typed f h) (then_typed f k)
spread_typed equal_spread f (equal_typed h k) = equal_typed (then_typed f h) (then_typed f k)
spread_typed not_spread f (not_typed h) = not_typed (then_typed f h)
spread_typed and_spread f (and_typed h k) = and_typed (then_typed f h) (then_typed f k)
spread_typed or_spread f (or_typed h k) = or_typed (then_typed f h) (then_typed f k)
spread_typed if_spread f (if_typed h k l) = if_typed (then_typed f h) (then_typed f k) (then_typed f l)
spread_typed event_spread f (event_typed h) = event_typed (then_typed f h)
spread_typed nth_spread f (nth_typed h k l) = nth_typed (then_typed f h) (then_typed f k) (then_typed f l)
spread_typed len_spread f (len_typed h) = len_typed (then_typed f h)
spread_typed list_spread f (list_typed hs) = list_typed (each_typed f hs)

constant_typed : {k : Expression} {Ps : List TypeTree} {A C B : TypeTree} → HasNoPart k → ExpressionTyped k Ps C B → ExpressionTyped k Ps A B
constant_typed param_constant (param_typed i) = param_typed i
constant_typed unit_constant unit_typed = unit_typed
constant_typed bool_constant bool_typed = bool_typed
constant_typed int_constant (int_typed f) = int_typed f
constant_typed no_event_constant no_event_typed = no_event_typed
constant_typed list_constant (list_typed no_more_typed) = list_typed no_more_typed

literal_typed : {o : Expression} {Ps : List TypeTree} {A B : TypeTree} → OnLiterals o → ExpressionTyped o Ps A B → (ps : List Datum) (x : Datum)
    → ExpressionTyped (literal_for (value_of o ps x)) Ps A B
literal_typed neg_literal (neg_typed h) ps x = int_typed (SFits-int_wrap w64 _)
literal_typed add_literals (add_typed h k) ps x = int_typed (SFits-int_wrap w64 _)
literal_typed sub_literals (sub_typed h k) ps x = int_typed (SFits-int_wrap w64 _)
literal_typed mul_literals (mul_typed h k) ps x = int_typed (SFits-int_wrap w64 _)
literal_typed less_literals (less_typed h k) ps x = bool_typed
literal_typed equal_units (equal_typed h k) ps x = bool_typed
literal_typed equal_bools (equal_typed h k) ps x = bool_typed
literal_typed equal_ints (equal_typed h k) ps x = bool_typed
literal_typed not_literal (not_typed h) ps x = bool_typed
literal_typed and_literals (and_typed h k) ps x = bool_typed
literal_typed or_literals (or_typed h k) ps x = bool_typed

element_typed : {es : Expressions} {d : Expression} {Ps : List TypeTree} {A T : TypeTree} (n : ℕ) → ExpressionsTyped es Ps A T → ExpressionTyped d Ps A T → ExpressionTyped (element_or es n d) Ps A T
element_typed n no_more_typed k = k
element_typed zero (and_then_typed h hs) k = h
element_typed (suc n) (and_then_typed h hs) k = element_typed n hs k

picked_typed : {es : Expressions} {d : Expression} {Ps : List TypeTree} {A T : TypeTree} (i : ℤ) → ExpressionsTyped es Ps A T → ExpressionTyped d Ps A T → ExpressionTyped (picked es i d) Ps A T
picked_typed (pos n) hs k = element_typed n hs k
picked_typed (negsuc n) hs k = k

turned_typed : {o r : Expression} {Ps : List TypeTree} {A B : TypeTree} → Turned o r → ExpressionTyped o Ps A B → ExpressionTyped r Ps A B
turned_typed and_true (and_typed h k) = k
turned_typed and_false (and_typed h k) = bool_typed
turned_typed or_true (or_typed h k) = bool_typed
turned_typed or_false (or_typed h k) = k
turned_typed (and_turned q) (and_typed h k) = and_typed k h
turned_typed (or_turned q) (or_typed h k) = or_typed k h

compared_typed : {o r : Expression} {Ps : List TypeTree} {A B : TypeTree} → Compared o r → ExpressionTyped o Ps A B → ExpressionTyped r Ps A B
compared_typed equal_same (equal_typed h k) = bool_typed
compared_typed (equal_turned q) (equal_typed h k) = equal_typed k h

-- the test of the first `if` of two, and the two with each of its parts
two_typed : {c d e l m r s : Expression} {Ps : List TypeTree} {A B C : TypeTree} → FirstIf c (two_of d e) (two_of l m) (two_of r s) → ExpressionTyped d Ps A B → ExpressionTyped e Ps A C
    → ExpressionTyped c Ps A bool_ty × ExpressionTyped l Ps A B × ExpressionTyped m Ps A C × ExpressionTyped r Ps A B × ExpressionTyped s Ps A C
two_typed here (if_typed h k m) e = (h, k, e, m, e)
two_typed (later q here) d (if_typed h k m) = (h, d, k, d, m)
two_typed (later q (later p i)) d e = elim i [ ]

-- the same of three
three_typed : {c d e f l m n r s t : Expression} {Ps : List TypeTree} {A B C D : TypeTree} → FirstIf c (three_of d e f) (three_of l m n) (three_of r s t) → ExpressionTyped d Ps A B
    → ExpressionTyped e Ps A C → ExpressionTyped f Ps A D
    → ExpressionTyped c Ps A bool_ty × ExpressionTyped l Ps A B × ExpressionTyped m Ps A C × ExpressionTyped n Ps A D × ExpressionTyped r Ps A B × ExpressionTyped s Ps A C × ExpressionTyped t Ps A D
three_typed here (if_typed h k m) e f = (h, k, e, f, m, e, f)
three_typed (later q here) d (if_typed h k m) f = (h, d, k, f, d, m, f)
three_typed (later q (later p here)) d e (if_typed h k m) = (h, d, e, k, d, e, m)
three_typed (later q (later p (later o i))) d e f = elim i [ ]

-- the same of elements
all_typed : {c : Expression} {es ls rs : Expressions} {Ps : List TypeTree} {A T : TypeTree} → FirstIf c es ls rs → ExpressionsTyped es Ps A T
    → ExpressionTyped c Ps A bool_ty × ExpressionsTyped ls Ps A T × ExpressionsTyped rs Ps A T
all_typed here (and_then_typed (if_typed h k m) hs) = (h, and_then_typed k hs, and_then_typed m hs)
all_typed (later q i) (and_then_typed h hs) = let t = all_typed i hs in (t.0, and_then_typed h t.1, and_then_typed h t.2)

lifted_typed : {o r : Expression} {Ps : List TypeTree} {A B : TypeTree} → Lifted o r → ExpressionTyped o Ps A B → ExpressionTyped r Ps A B
lifted_typed fst_lifted (fst_typed (if_typed h k m)) = if_typed h (fst_typed k) (fst_typed m)
lifted_typed snd_lifted (snd_typed (if_typed h k m)) = if_typed h (snd_typed k) (snd_typed m)
lifted_typed neg_lifted (neg_typed (if_typed h k m)) = if_typed h (neg_typed k) (neg_typed m)
lifted_typed not_lifted (not_typed (if_typed h k m)) = if_typed h (not_typed k) (not_typed m)
lifted_typed event_lifted (event_typed (if_typed h k m)) = if_typed h (event_typed k) (event_typed m)
lifted_typed len_lifted (len_typed (if_typed h k m)) = if_typed h (len_typed k) (len_typed m)
lifted_typed then_lifted (then_typed (if_typed h k m) g) = if_typed h (then_typed k g) (then_typed m g)
lifted_typed (pair_lifted i) (pair_typed h k) = let t = two_typed i h k in if_typed t.0 (pair_typed t.1 t.2) (pair_typed t.3 t.4)
lifted_typed (add_lifted i) (add_typed h k) = let t = two_typed i h k in if_typed t.0 (add_typed t.1 t.2) (add_typed t.3 t.4)
lifted_typed (sub_lifted i) (sub_typed h k) = let t = two_typed i h k in if_typed t.0 (sub_typed t.1 t.2) (sub_typed t.3 t.4)
lifted_typed (mul_lifted i) (mul_typed h k) = let t = two_typed i h k in if_typed t.0 (mul_typed t.1 t.2) (mul_typed t.3 t.4)
lifted_typed (less_lifted i) (less_typed h k) = let t = two_typed i h k in if_typed t.0 (less_typed t.1 t.2) (less_typed t.3 t.4)
lifted_typed (equal_lifted i) (equal_typed h k) = let t = two_typed i h k in if_typed t.0 (equal_typed t.1 t.2) (equal_typed t.3 t.4)
lifted_typed (and_lifted i) (and_typed h k) = let t = two_typed i h k in if_typed t.0 (and_typed t.1 t.2) (and_typed t.3 t.4)
lifted_typed (or_lifted i) (or_typed h k) = let t = two_typed i h k in if_typed t.0 (or_typed t.1 t.2) (or_typed t.3 t.4)
lifted_typed (on_lifted i) (on_typed h k b) = let t = two_typed i h k in if_typed t.0 (on_typed t.1 t.2 b) (on_typed t.3 t.4 b)
lifted_typed (if_lifted i) (if_typed h k m) = let t = three_typed i h k m in if_typed t.0 (if_typed t.1 t.2 t.3) (if_typed t.4 t.5 t.6)
lifted_typed (nth_lifted i) (nth_typed h k m) = let t = three_typed i h k m in if_typed t.0 (nth_typed t.1 t.2 t.3) (nth_typed t.4 t.5 t.6)
lifted_typed (list_lifted i) (list_typed hs) = let t = all_typed i hs in if_typed t.0 (list_typed t.1) (list_typed t.2)

second_same : {A B C D : TypeTree} → pair_ty A B ≡ pair_ty C D → B ≡ D
second_same q = cc

pair_again : (e : Expression) (Ps : List TypeTree) (A B C D E : TypeTree) → ExpressionTyped e Ps A (pair_ty B C) → ExpressionTyped e Ps A (pair_ty D E) → ExpressionTyped e Ps A (pair_ty B E)
pair_again e Ps A B C D E h k = subst (λ t. ExpressionTyped e Ps A (pair_ty B t)) (second_same (one_type e Ps A (pair_ty B C) (pair_ty D E) h k)) h

pub side_type : (n : ℕ) (l r : Expression) → ExpressionLaw n l r → (Ps : List TypeTree) (A B : TypeTree) → ExpressionTyped l Ps A B → ExpressionTyped r Ps A B
side_type n l r law_e1 Ps A B (then_typed input_typed h) = h
side_type n l r law_e2 Ps A B (then_typed h input_typed) = h
side_type n l r law_e3 Ps A B (then_typed (then_typed f g) h) = then_typed f (then_typed g h)
side_type n l r (law_e4 s) Ps A B (then_typed f o) = spread_typed s f o
side_type n l r law_e5 Ps A B (then_typed f (on_typed g d b)) = on_typed (then_typed f g) (then_typed f d) (then_typed (pair_typed (then_typed (fst_typed input_typed) f) (snd_typed input_typed)) b)
side_type n l r (law_e6 c) Ps A B (then_typed f k) = constant_typed c k
side_type n l r law_e7 Ps A B (fst_typed (pair_typed h k)) = h
side_type n l r law_e8 Ps A B (snd_typed (pair_typed h k)) = k
side_type n l r law_e9 Ps A B (pair_typed (fst_typed {e = e} h) (snd_typed k)) = pair_again e Ps A _ _ _ _ h k
side_type n l r law_e10 Ps A B (if_typed c h k) = h
side_type n l r law_e11 Ps A B (if_typed c h k) = k
side_type n l r law_e12 Ps A B (if_typed c h k) = h
side_type n l r law_e13 Ps A B (on_typed e d b) = d
side_type n l r law_e14 Ps A B (on_typed (event_typed v) d b) = then_typed (pair_typed input_typed v) b
side_type n l r (law_e15 c) Ps A B h = literal_typed c h _ _
side_type n l r law_e16 Ps A B (add_typed h k) = add_typed k h
side_type n l r law_e17 Ps A B (add_typed (add_typed h k) m) = add_typed h (add_typed k m)
side_type n l r (law_e18 {i = i}) Ps A B (nth_typed (list_typed hs) k d) = picked_typed i hs d
side_type n l r law_e19 Ps A B (sub_typed h k) = add_typed h (neg_typed k)
side_type n l r law_e20 Ps A B (mul_typed h k) = mul_typed k h
side_type n l r law_e21 Ps A B (mul_typed (mul_typed h k) m) = mul_typed h (mul_typed k m)
side_type n l r law_e22 Ps A B (mul_typed h (add_typed k m)) = add_typed (mul_typed h k) (mul_typed h m)
side_type n l r (law_e23 t) Ps A B h = turned_typed t h
side_type n l r law_e24 Ps A B (not_typed (not_typed h)) = h
side_type n l r law_e25 Ps A B (if_typed (not_typed h) k m) = if_typed h m k
side_type n l r (law_e26 c) Ps A B h = compared_typed c h
side_type n l r law_e27 Ps A B (add_typed h k) = h
side_type n l r law_e28 Ps A B (mul_typed h k) = h
side_type n l r law_e29 Ps A B (mul_typed h k) = k
side_type n l r law_e30 Ps A B (neg_typed (neg_typed h)) = h
side_type n l r law_e31 Ps A B (neg_typed (add_typed h k)) = add_typed (neg_typed h) (neg_typed k)
side_type n l r law_e32 Ps A B (neg_typed (mul_typed h k)) = mul_typed (neg_typed h) k
side_type n l r law_e33 Ps A B (add_typed h k) = int_typed zero_fits
side_type n l r law_e34 Ps A B (less_typed h k) = bool_typed
side_type n l r law_e35 Ps A B (and_typed h k) = h
side_type n l r law_e36 Ps A B (or_typed h k) = h
side_type n l r law_e37 Ps A B (and_typed (and_typed h k) m) = and_typed h (and_typed k m)
side_type n l r law_e38 Ps A B (or_typed (or_typed h k) m) = or_typed h (or_typed k m)
side_type n l r law_e39 Ps A B (and_typed h k) = bool_typed
side_type n l r law_e40 Ps A B (or_typed h k) = bool_typed
side_type n l r law_e41 Ps A B (not_typed (and_typed h k)) = or_typed (not_typed h) (not_typed k)
side_type n l r law_e42 Ps A B (not_typed (or_typed h k)) = and_typed (not_typed h) (not_typed k)
side_type n l r law_e43 Ps A B (and_typed h (or_typed k m)) = or_typed (and_typed h k) (and_typed h m)
side_type n l r law_e44 Ps A B (if_typed h bool_typed k) = h
side_type n l r law_e45 Ps A B (and_typed h k) = if_typed h k bool_typed
side_type n l r law_e46 Ps A B (or_typed h k) = if_typed h bool_typed k
side_type n l r law_e47 Ps A B (if_typed c (if_typed h k m) d) = if_typed c k d
side_type n l r law_e48 Ps A B (if_typed c a (if_typed h k m)) = if_typed c a m
side_type n l r (law_e49 c) Ps A B h = lifted_typed c h
side_type n l r law_e50 Ps A B (on_typed (on_typed e d b) g h) =
    on_typed e (on_typed d g h)
    (on_typed b (then_typed (fst_typed input_typed) g) (then_typed (pair_typed (fst_typed (fst_typed input_typed)) (snd_typed input_typed)) h))
side_type n l r law_e51 Ps A B (on_typed e no_event_typed (event_typed (snd_typed input_typed))) = e
side_type n l r law_e52 Ps A B (on_typed e d b) = d
side_type n l r law_e53 Ps A B (then_typed (on_typed e d b) f) = on_typed e (then_typed d f) (then_typed b f)
side_type n l r law_e54 Ps A B (pair_typed (on_typed e d b) f) = on_typed e (pair_typed d f) (pair_typed b (then_typed (fst_typed input_typed) f))
side_type n l r law_e55 Ps A B (pair_typed f (on_typed e d b)) = on_typed e (pair_typed f d) (pair_typed (then_typed (fst_typed input_typed) f) b)
