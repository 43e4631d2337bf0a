-- A typed expression has typed values.
use Rattle.std.proofs.Common.{ℕ, zero, suc, ℤ, pos, negsuc, Bool, true, false, List, w64}
use Rattle.std.specs.Int.{int_wrap}
use Rattle.std.proofs.lemmas.Int.{SFits-int_wrap}
use Rattle.sample_core.specs.Datum.{Datum, Datums, pair, int, left, right, list_of}
use Rattle.sample_core.specs.TypeTree.{TypeTree, int_ty, pair_ty, event_ty, list_ty}
use Rattle.sample_core.specs.HasType.{HasType, HaveType, unit_has, bool_has, int_has, pair_has, no_event_has, event_has, list_has, end_has, more_has, TypedParams, and_param}
use Rattle.leaf_core.specs.Expression.{Expression, Expressions}
use Rattle.leaf_core.specs.ExpressionValue.{value_of, values_of, choose, on_event, nth_of, element_at, param_at}
use Rattle.leaf_core.specs.ExpressionTyping.{ParamAt, param_here, param_after, ExpressionTyped, ExpressionsTyped, input_typed, param_typed, unit_typed, bool_typed, int_typed, pair_typed, fst_typed, snd_typed, then_typed, neg_typed, add_typed, sub_typed, mul_typed, less_typed, equal_typed, not_typed, and_typed, or_typed, if_typed, no_event_typed, event_typed, on_typed, list_typed, nth_typed, len_typed, no_more_typed, and_then_typed}

pub typed_left : {A B : TypeTree} {v : Datum} → HasType v (pair_ty A B) → HasType (left v) A
typed_left (pair_has h k) = h

pub typed_right : {A B : TypeTree} {v : Datum} → HasType v (pair_ty A B) → HasType (right v) B
typed_right (pair_has h k) = k

pub typed_wrapped : (z : ℤ) → HasType (int (int_wrap w64 z)) int_ty
typed_wrapped z = int_has (SFits-int_wrap w64 z)

typed_chosen : {B : TypeTree} (b : Bool) {v w : Datum} → HasType v B → HasType w B → HasType (choose b v w) B
typed_chosen true h k = h
typed_chosen false h k = k

typed_on_event : {V C : TypeTree} {v d : Datum} (b : Datum → Datum) → HasType v (event_ty V) → HasType d C → ((w : Datum) → HasType w V → HasType (b w) C)
    → HasType (on_event v d b) C
typed_on_event b no_event_has k s = k
typed_on_event b (event_has {v = w} h) k s = s w h

typed_nth_of : {A : TypeTree} {vs : Datums} {d : Datum} (n : ℕ) → HaveType vs A → HasType d A → HasType (nth_of vs n d) A
typed_nth_of n end_has k = k
typed_nth_of zero (more_has h hs) k = h
typed_nth_of (suc n) (more_has h hs) k = typed_nth_of n hs k

typed_element_at : {A : TypeTree} {v d : Datum} (i : ℤ) → HasType v (list_ty A) → HasType d A → HasType (element_at v i d) A
typed_element_at (pos n) (list_has h) k = typed_nth_of n h k
typed_element_at (negsuc n) (list_has h) k = k

pub typed_param_at : {Ps : List TypeTree} {k : ℕ} {B : TypeTree} (ps : List Datum) → ParamAt Ps k B → TypedParams Ps ps → HasType (param_at ps k) B
typed_param_at ps param_here (and_param h hs) = h
typed_param_at ps (param_after i) (and_param {ps = ps'} h hs) = typed_param_at ps' i hs

mutual
  pub typed_value : (e : Expression) (Ps : List TypeTree) (A B : TypeTree) → ExpressionTyped e Ps A B → (ps : List Datum) (x : Datum) → TypedParams Ps ps
      → HasType x A → HasType (value_of e ps x) B
  typed_value e Ps A B input_typed ps x k j = j
  typed_value e Ps A B (param_typed i) ps x k j = typed_param_at ps i k
  typed_value e Ps A B unit_typed ps x k j = unit_has
  typed_value e Ps A B bool_typed ps x k j = bool_has
  typed_value e Ps A B (int_typed f) ps x k j = int_has f
  typed_value e Ps A B (pair_typed {B = B'} {C = C} {a = a} {b = b} h h') ps x k j =
      pair_has (typed_value a Ps A B' h ps x k j) (typed_value b Ps A C h' ps x k j)
  typed_value e Ps A B (fst_typed {C = C} {e = e'} h) ps x k j = typed_left (typed_value e' Ps A _ h ps x k j)
  typed_value e Ps A B (snd_typed {B = B'} {e = e'} h) ps x k j = typed_right (typed_value e' Ps A _ h ps x k j)
  typed_value e Ps A B (then_typed {B = C} {f = f} {g = g} h h') ps x k j = typed_value g Ps C B h' ps (value_of f ps x) k (typed_value f Ps A C h ps x k j)
  typed_value e Ps A B (neg_typed h) ps x k j = typed_wrapped _
  typed_value e Ps A B (add_typed h h') ps x k j = typed_wrapped _
  typed_value e Ps A B (sub_typed h h') ps x k j = typed_wrapped _
  typed_value e Ps A B (mul_typed h h') ps x k j = typed_wrapped _
  typed_value e Ps A B (less_typed h h') ps x k j = bool_has
  typed_value e Ps A B (equal_typed h h') ps x k j = bool_has
  typed_value e Ps A B (not_typed h) ps x k j = bool_has
  typed_value e Ps A B (and_typed h h') ps x k j = bool_has
  typed_value e Ps A B (or_typed h h') ps x k j = bool_has
  typed_value e Ps A B (if_typed {a = a} {b = b} h h' h'') ps x k j = typed_chosen _ (typed_value a Ps A B h' ps x k j) (typed_value b Ps A B h'' ps x k j)
  typed_value e Ps A B no_event_typed ps x k j = no_event_has
  typed_value e Ps A B (event_typed {B = B'} {e = e'} h) ps x k j = event_has (typed_value e' Ps A B' h ps x k j)
  typed_value e Ps A B (on_typed {V = V} {e = e'} {d = d} {b = b} h h' h'') ps x k j =
      typed_on_event (λ v. value_of b ps (pair x v)) (typed_value e' Ps A _ h ps x k j) (typed_value d Ps A B h' ps x k j)
      (λ v i. typed_value b Ps _ B h'' ps (pair x v) k (pair_has j i))
  typed_value e Ps A B (list_typed {T = T} {es = es} hs) ps x k j = list_has (typed_values_of es Ps A T hs ps x k j)
  typed_value e Ps A B (nth_typed {e = e'} {d = d} h h' h'') ps x k j =
      typed_element_at _ (typed_value e' Ps A _ h ps x k j) (typed_value d Ps A B h'' ps x k j)
  typed_value e Ps A B (len_typed h) ps x k j = typed_wrapped _

  pub typed_values_of : (es : Expressions) (Ps : List TypeTree) (A T : TypeTree) → ExpressionsTyped es Ps A T → (ps : List Datum) (x : Datum)
      → TypedParams Ps ps → HasType x A → HaveType (list_of (values_of es ps x)) T
  typed_values_of es Ps A T no_more_typed ps x k j = end_has
  typed_values_of es Ps A T (and_then_typed {e = e} {es = es'} h hs) ps x k j =
      more_has (typed_value e Ps A T h ps x k j) (typed_values_of es' Ps A T hs ps x k j)
