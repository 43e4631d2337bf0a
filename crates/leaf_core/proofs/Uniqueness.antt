-- An expression has at most one type.
use Rattle.std.proofs.Common.{◌≡◌, ℕ, List, refl, ap, sym, ◌∙◌, subst}
use Rattle.sample_core.specs.TypeTree.{TypeTree, pair_ty, event_ty}
use Rattle.leaf_core.specs.Expression.{Expression}
use Rattle.leaf_core.specs.ExpressionTyping.{ParamAt, param_here, param_after, ExpressionTyped, input_typed, param_typed, unit_typed, bool_typed, int_typed, pair_typed, fst_typed, snd_typed, then_typed, neg_typed, add_typed, sub_typed, mul_typed, less_typed, equal_typed, not_typed, and_typed, or_typed, if_typed, no_event_typed, event_typed, on_typed, list_typed, nth_typed, len_typed}

-- equal types of pairs have equal parts
parts_same : {A B C D : TypeTree} → pair_ty A B ≡ pair_ty C D → (A ≡ C) × (B ≡ D)
parts_same p = (cc, cc)

one_param : (Ps : List TypeTree) (k : ℕ) (B B' : TypeTree) → ParamAt Ps k B → ParamAt Ps k B' → B ≡ B'
one_param Ps k B B' param_here param_here = refl
one_param Ps k B B' (param_after {Ps = Qs} {k = j} i) (param_after i') = one_param Qs j B B' i i'

pub one_type : (e : Expression) (Ps : List TypeTree) (A B B' : TypeTree) → ExpressionTyped e Ps A B → ExpressionTyped e Ps A B' → B ≡ B'
one_type e Ps A B B' input_typed input_typed = refl
one_type e Ps A B B' (param_typed {k = k} i) (param_typed j) = one_param Ps k B B' i j
one_type e Ps A B B' unit_typed unit_typed = refl
one_type e Ps A B B' bool_typed bool_typed = refl
one_type e Ps A B B' (int_typed f) (int_typed g) = refl
one_type e Ps A B B' (pair_typed {B = C} {C = D} {a = a} {b = b} h k) (pair_typed {B = C'} {C = D'} h' k') = ap (λ T. pair_ty T D) (one_type a Ps A C C' h h')
    ∙ ap (λ T. pair_ty C' T) (one_type b Ps A D D' k k')
one_type e Ps A B B' (fst_typed {C = C} {e = e'} h) (fst_typed {C = D} k) = (parts_same (one_type e' Ps A (pair_ty B C) (pair_ty B' D) h k)).0
one_type e Ps A B B' (snd_typed {B = C} {e = e'} h) (snd_typed {B = D} k) = (parts_same (one_type e' Ps A (pair_ty C B) (pair_ty D B') h k)).1
one_type e Ps A B B' (then_typed {B = C} {f = f} {g = g} h k) (then_typed {B = D} h' k') =
    one_type g Ps C B B' k (subst (λ T. ExpressionTyped g Ps T B') (sym (one_type f Ps A C D h h')) k')
one_type e Ps A B B' (neg_typed h) (neg_typed h') = refl
one_type e Ps A B B' (not_typed h) (not_typed h') = refl
one_type e Ps A B B' (add_typed h k) (add_typed h' k') = refl
one_type e Ps A B B' (sub_typed h k) (sub_typed h' k') = refl
one_type e Ps A B B' (mul_typed h k) (mul_typed h' k') = refl
one_type e Ps A B B' (less_typed h k) (less_typed h' k') = refl
one_type e Ps A B B' (equal_typed h k) (equal_typed h' k') = refl
one_type e Ps A B B' (and_typed h k) (and_typed h' k') = refl
one_type e Ps A B B' (or_typed h k) (or_typed h' k') = refl
one_type e Ps A B B' (if_typed {a = a} h k l) (if_typed h' k' l') = one_type a Ps A B B' k k'
one_type e Ps A B B' no_event_typed no_event_typed = refl
one_type e Ps A B B' (event_typed {B = C} {e = e'} h) (event_typed {B = D} k) = ap event_ty (one_type e' Ps A C D h k)
one_type e Ps A B B' (on_typed {d = d} h k l) (on_typed h' k' l') = one_type d Ps A B B' k k'
one_type e Ps A B B' (list_typed hs) (list_typed ks) = refl
one_type e Ps A B B' (nth_typed {d = d} h k l) (nth_typed h' k' l') = one_type d Ps A B B' l l'
one_type e Ps A B B' (len_typed h) (len_typed k) = refl
