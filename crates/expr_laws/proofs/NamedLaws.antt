-- What the laws that aren't two patterns make of an expression is a right side, and no other is.
use Rattle.std.proofs.Common.{◌≡◌, ℕ, ℤ, Bool, true, false, cond, IsTrue, ◌↔◌, Option, Some, None, refl, sym, ap, ap₂, ◌∙◌, subst}
use Rattle.sample_core.specs.TypeTree.{TypeTree}
use Rattle.leaf_core.specs.Expression.{Expression, Expressions, param, unit_expr, bool_expr, int_expr, pair_expr, fst, snd, then_expr, neg, add, sub, mul, less, equal, not_expr, and_expr, or_expr, if_expr, no_event_expr, event_expr, list_expr, nth, len, no_more, and_then}
use Rattle.leaf_core.specs.ExpressionCode.{expression_code}
use Rattle.leaf_core.specs.EqualityByCode.{same_by, same_by_decides, same_by_is}
use Rattle.expr_laws.specs.ExpressionLaw.{Spread, pair_spread, fst_spread, snd_spread, neg_spread, add_spread, sub_spread, mul_spread, less_spread, equal_spread, not_spread, and_spread, or_spread, if_spread, event_spread, nth_spread, len_spread, list_spread, Turned, and_true, and_false, or_true, or_false, and_turned, or_turned, Compared, equal_same, equal_turned, is_bool, HasNoPart, param_constant, unit_constant, bool_constant, int_constant, no_event_constant, list_constant, OnLiterals, neg_literal, add_literals, sub_literals, mul_literals, less_literals, equal_units, equal_bools, equal_ints, not_literal, and_literals, or_literals, ExpressionLaw, law_e4, law_e6, law_e15, law_e18, law_e23, law_e26}
use Rattle.expr_laws.specs.Direct.{spread, law4, is_constant, law6, on_literals, law15, picked_in, law18, turned_by, law23, turned_equal, law26}

-- an answer, if there is one, is a right side
abbrev pub IsRight : ℕ → Expression → Option Expression → Type 0
IsRight n e (Some r) = ExpressionLaw n e r
IsRight n e None = Unit {0}

spread-gives : (f o : Expression) → IsRight 4 (then_expr f o) (spread f o)
spread-gives f (pair_expr a b) = law_e4 pair_spread
spread-gives f (fst e) = law_e4 fst_spread
spread-gives f (snd e) = law_e4 snd_spread
spread-gives f (neg a) = law_e4 neg_spread
spread-gives f (add a b) = law_e4 add_spread
spread-gives f (sub a b) = law_e4 sub_spread
spread-gives f (mul a b) = law_e4 mul_spread
spread-gives f (less a b) = law_e4 less_spread
spread-gives f (equal a b) = law_e4 equal_spread
spread-gives f (not_expr a) = law_e4 not_spread
spread-gives f (and_expr a b) = law_e4 and_spread
spread-gives f (or_expr a b) = law_e4 or_spread
spread-gives f (if_expr c a b) = law_e4 if_spread
spread-gives f (event_expr e) = law_e4 event_spread
spread-gives f (nth e i d) = law_e4 nth_spread
spread-gives f (len e) = law_e4 len_spread
spread-gives f (list_expr T (and_then e es)) = law_e4 list_spread
spread-gives f _ = tt

pub law4-gives : (e : Expression) → IsRight 4 e (law4 e)
law4-gives (then_expr f o) = spread-gives f o
law4-gives _ = tt

constant-gives : (f k : Expression) → IsRight 6 (then_expr f k) (law6 (then_expr f k))
constant-gives f (param k) = law_e6 param_constant
constant-gives f unit_expr = law_e6 unit_constant
constant-gives f (bool_expr b) = law_e6 bool_constant
constant-gives f (int_expr n) = law_e6 int_constant
constant-gives f (no_event_expr T) = law_e6 no_event_constant
constant-gives f (list_expr T no_more) = law_e6 list_constant
constant-gives f _ = tt

pub law6-gives : (e : Expression) → IsRight 6 e (law6 e)
law6-gives (then_expr f k) = constant-gives f k
law6-gives _ = tt

pub law15-gives : (e : Expression) → IsRight 15 e (law15 e)
law15-gives (neg (int_expr m)) = law_e15 neg_literal
law15-gives (add (int_expr m) (int_expr n)) = law_e15 add_literals
law15-gives (sub (int_expr m) (int_expr n)) = law_e15 sub_literals
law15-gives (mul (int_expr m) (int_expr n)) = law_e15 mul_literals
law15-gives (less (int_expr m) (int_expr n)) = law_e15 less_literals
law15-gives (equal unit_expr unit_expr) = law_e15 equal_units
law15-gives (equal (bool_expr b) (bool_expr c)) = law_e15 equal_bools
law15-gives (equal (int_expr m) (int_expr n)) = law_e15 equal_ints
law15-gives (not_expr (bool_expr b)) = law_e15 not_literal
law15-gives (and_expr (bool_expr b) (bool_expr c)) = law_e15 and_literals
law15-gives (or_expr (bool_expr b) (bool_expr c)) = law_e15 or_literals
law15-gives _ = tt

picked-gives : (T : TypeTree) (es : Expressions) (i : ℤ) (d : Expression) → IsRight 18 (nth (list_expr T es) (int_expr i) d) (picked_in es i d)
picked-gives T no_more i d = tt
picked-gives T (and_then e es) i d = law_e18

pub law18-gives : (e : Expression) → IsRight 18 e (law18 e)
law18-gives (nth (list_expr T es) (int_expr i) d) = picked-gives T es i d
law18-gives _ = tt

and-gives : (a b : Expression) → Turned (and_expr a b) (turned_by true (and_expr b a) a b)
and-gives (bool_expr true) b = and_true
and-gives (bool_expr false) b = and_false
and-gives _ b = and_turned refl

or-gives : (a b : Expression) → Turned (or_expr a b) (turned_by false (or_expr b a) a b)
or-gives (bool_expr true) b = or_true
or-gives (bool_expr false) b = or_false
or-gives _ b = or_turned refl

pub law23-gives : (e : Expression) → IsRight 23 e (law23 e)
law23-gives (and_expr a b) = law_e23 (and-gives a b)
law23-gives (or_expr a b) = law_e23 (or-gives a b)
law23-gives _ = tt

decided : (a b : Expression) (t : Bool) → same_by expression_code a b ≡ t → Compared (equal a b) (cond t (bool_expr true) (equal b a))
decided a b true e = subst (λ c. Compared (equal a c) (bool_expr true)) ((same_by_decides expression_code a b).0 e) equal_same
decided a b false e = equal_turned (λ q. let h : same_by expression_code a b ≡ true = (same_by_decides expression_code a b).1 q in absurd (cc))

pub law26-gives : (e : Expression) → IsRight 26 e (law26 e)
law26-gives (equal a b) = law_e26 (decided a b (same_by expression_code a b) refl)
law26-gives _ = tt

-- what a test of equality answers is what the law does
pub same-made : (a b : Expression) (r : Bool) → IsTrue r ↔ (a ≡ b) → r ≡ true → Some (bool_expr true) ≡ Some (turned_equal a b)
same-made a b r h q = ap (λ t. Some (cond t (bool_expr true) (equal b a))) (sym q ∙ same_by_is expression_code a b r h)

pub other-made : (a b c d : Expression) (r : Bool) → IsTrue r ↔ (a ≡ b) → r ≡ false → c ≡ b → d ≡ a → Some (equal c d) ≡ Some (turned_equal a b)
other-made a b c d r h q s t = ap₂ (λ v w. Some (equal v w)) s t ∙ ap (λ u. Some (cond u (bool_expr true) (equal b a))) (sym q ∙ same_by_is expression_code a b r h)

pub spread-is : {f o r : Expression} → Spread f o r → spread f o ≡ Some r
spread-is pair_spread = refl
spread-is _ = refl

pub constant-is : {k : Expression} → HasNoPart k → is_constant k ≡ true
constant-is param_constant = refl
constant-is _ = refl

pub on_literals-is : {o : Expression} → OnLiterals o → on_literals o ≡ true
on_literals-is neg_literal = refl
on_literals-is _ = refl

exchanged-is : (neutral : Bool) (x a b : Expression) → is_bool a ≡ false → turned_by neutral x a b ≡ x
exchanged-is neutral x (bool_expr c) b q = absurd (cc)
exchanged-is neutral x _ b q = refl

pub turned-is : {o r : Expression} → Turned o r → law23 o ≡ Some r
turned-is and_true = refl
turned-is and_false = refl
turned-is or_true = refl
turned-is or_false = refl
turned-is (and_turned {a = a} {b = b} q) = ap Some (exchanged-is true (and_expr b a) a b q)
turned-is (or_turned {a = a} {b = b} q) = ap Some (exchanged-is false (or_expr b a) a b q)

pub compared-is : {o r : Expression} → Compared o r → law26 o ≡ Some r
compared-is (equal_same {a = a}) = sym (same-made a a true (λ e. refl, λ e. refl) refl)
compared-is (equal_turned {a = a} {b = b} n) = sym (other-made a b b a false (λ e. absurd (cc), λ e. absurd (n e)) refl refl refl)
