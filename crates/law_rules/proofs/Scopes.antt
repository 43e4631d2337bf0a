-- A typed expression has its parameters in scope, so further ones don't change its value.
use Rattle.std.proofs.Common.{◌≡◌, ℕ, ◌+ℤ◌, ◌-ℤ◌, ◌*ℤ◌, neg_ℤ, pos, int_lt, not, ◌&&◌, ◌||◌, List, ◌∷◌, ◌++◌, refl, ap, ap₂, ◌∙◌}
use mathlib.Core.Path.{fun_ext}
use Rattle.sample_core.specs.Datum.{Datum, bool, pair, event, list, left, right, int_of, list_of}
use Rattle.sample_core.specs.TypeTree.{TypeTree}
use Rattle.sample_core.specs.HasType.{TypedParams, and_param}
use Rattle.leaf_core.specs.Expression.{Expression, Expressions}
use Rattle.leaf_core.specs.ExpressionValue.{value_of, values_of, same_datum, is_true, choose, wrap, element_at, count_of, param_at, on_event}
use Rattle.leaf_core.specs.ExpressionTyping.{ParamAt, param_here, param_after, ExpressionTyped, ExpressionsTyped, input_typed, param_typed, unit_typed, bool_typed, int_typed, pair_typed, fst_typed, snd_typed, then_typed, neg_typed, add_typed, sub_typed, mul_typed, less_typed, equal_typed, not_typed, and_typed, or_typed, if_typed, no_event_typed, event_typed, on_typed, list_typed, nth_typed, len_typed, no_more_typed, and_then_typed}

param-stays : {Ps : List TypeTree} {k : ℕ} {B : TypeTree} (ps qs : List Datum) → ParamAt Ps k B → TypedParams Ps ps → param_at (ps ++ qs) k ≡ param_at ps k
param-stays ps qs param_here (and_param h hs) = refl
param-stays ps qs (param_after i) (and_param {ps = ps'} h hs) = param-stays ps' qs i hs

-- a value of three parts
three : {A B C D : Type 0} (h : A → B → C → D) {a a' : A} {b b' : B} {c c' : C} → a ≡ a' → b ≡ b' → c ≡ c' → h a b c ≡ h a' b' c'
three h {a' = a'} {b' = b'} {c = c} p q r = ap₂ (λ a b. h a b c) p q ∙ ap (h a' b') r

module _ (ps qs : List Datum) where
  mutual
    pub value-stays : (e : Expression) (Ps : List TypeTree) (A B : TypeTree) → ExpressionTyped e Ps A B → TypedParams Ps ps → value_of e (ps ++ qs) ≡ value_of e ps
    value-stays e Ps A B input_typed k = refl
    value-stays e Ps A B (param_typed i) k = fun_ext λ x. param-stays ps qs i k
    value-stays e Ps A B unit_typed k = refl
    value-stays e Ps A B bool_typed k = refl
    value-stays e Ps A B (int_typed f) k = refl
    value-stays e Ps A B (pair_typed {B = B'} {C = C} {a = a} {b = b} h h') k = ap₂ (λ f g x. pair (f x) (g x)) (value-stays a Ps A B' h k) (value-stays b Ps A C h' k)
    value-stays e Ps A B (fst_typed {e = e'} h) k = ap (λ f x. left (f x)) (value-stays e' Ps A _ h k)
    value-stays e Ps A B (snd_typed {e = e'} h) k = ap (λ f x. right (f x)) (value-stays e' Ps A _ h k)
    value-stays e Ps A B (then_typed {B = C} {f = f} {g = g} h h') k = ap₂ (λ f g x. g (f x)) (value-stays f Ps A C h k) (value-stays g Ps C B h' k)
    value-stays e Ps A B (neg_typed {a = a} h) k = ap (λ f x. wrap (neg_ℤ (int_of (f x)))) (value-stays a Ps A _ h k)
    value-stays e Ps A B (add_typed {a = a} {b = b} h h') k = ap₂ (λ f g x. wrap (int_of (f x) +ℤ int_of (g x))) (value-stays a Ps A _ h k) (value-stays b Ps A _ h' k)
    value-stays e Ps A B (sub_typed {a = a} {b = b} h h') k = ap₂ (λ f g x. wrap (int_of (f x) -ℤ int_of (g x))) (value-stays a Ps A _ h k) (value-stays b Ps A _ h' k)
    value-stays e Ps A B (mul_typed {a = a} {b = b} h h') k = ap₂ (λ f g x. wrap (int_of (f x) *ℤ int_of (g x))) (value-stays a Ps A _ h k) (value-stays b Ps A _ h' k)
    value-stays e Ps A B (less_typed {a = a} {b = b} h h') k = ap₂ (λ f g x. bool (int_lt (int_of (f x)) (int_of (g x)))) (value-stays a Ps A _ h k) (value-stays b Ps A _ h' k)
    value-stays e Ps A B (equal_typed {B = C} {a = a} {b = b} h h') k = ap₂ (λ f g x. bool (same_datum (f x) (g x))) (value-stays a Ps A C h k) (value-stays b Ps A C h' k)
    value-stays e Ps A B (not_typed {a = a} h) k = ap (λ f x. bool (not (is_true (f x)))) (value-stays a Ps A _ h k)
    value-stays e Ps A B (and_typed {a = a} {b = b} h h') k = ap₂ (λ f g x. bool (is_true (f x) && is_true (g x))) (value-stays a Ps A _ h k) (value-stays b Ps A _ h' k)
    value-stays e Ps A B (or_typed {a = a} {b = b} h h') k = ap₂ (λ f g x. bool (is_true (f x) || is_true (g x))) (value-stays a Ps A _ h k) (value-stays b Ps A _ h' k)
    value-stays e Ps A B (if_typed {c = c} {a = a} {b = b} h h' h'') k = three (λ e f g x. choose (is_true (e x)) (f x) (g x)) (value-stays c Ps A _ h k) (value-stays a Ps A B h' k) (value-stays b Ps A B h'' k)
    value-stays e Ps A B no_event_typed k = refl
    value-stays e Ps A B (event_typed {B = B'} {e = e'} h) k = ap (λ f x. event (f x)) (value-stays e' Ps A B' h k)
    value-stays e Ps A B (on_typed {V = V} {e = e'} {d = d} {b = b} h h' h'') k = three (λ e f g x. on_event (e x) (f x) (λ v. g (pair x v))) (value-stays e' Ps A _ h k) (value-stays d Ps A B h' k) (value-stays b Ps _ B h'' k)
    value-stays e Ps A B (list_typed {T = T} {es = es} hs) k = ap (λ f x. list (list_of (f x))) (values-stay es Ps A T hs k)
    value-stays e Ps A B (nth_typed {e = e'} {i = i} {d = d} h h' h'') k = three (λ e f g x. element_at (e x) (int_of (f x)) (g x)) (value-stays e' Ps A _ h k) (value-stays i Ps A _ h' k) (value-stays d Ps A B h'' k)
    value-stays e Ps A B (len_typed {e = e'} h) k = ap (λ f x. wrap (pos (count_of (f x)))) (value-stays e' Ps A _ h k)

    values-stay : (es : Expressions) (Ps : List TypeTree) (A T : TypeTree) → ExpressionsTyped es Ps A T → TypedParams Ps ps → values_of es (ps ++ qs) ≡ values_of es ps
    values-stay es Ps A T no_more_typed k = refl
    values-stay es Ps A T (and_then_typed {e = e} {es = es'} h hs) k = ap₂ (λ f g x. f x ∷ g x) (value-stays e Ps A T h k) (values-stay es' Ps A T hs k)
