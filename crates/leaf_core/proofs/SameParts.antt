-- A part of a typed expression, at any path, may be replaced by one of its type and its value.
use Rattle.std.proofs.Common.{◌≡◌, ℕ, zero, suc, true, false, int_lt, neg_ℤ, ◌+ℤ◌, ◌-ℤ◌, ◌*ℤ◌, pos, not, ◌&&◌, ◌||◌, List, [], ◌∷◌, Option, Some, option_map, option_and_then, refl, sym, ap, ◌∙◌, subst}
use Rattle.std.proofs.lemmas.Option.{none-some, same_Some}
use Rattle.sample_core.specs.Datum.{Datum, pair, bool, event, list, left, right, int_of, list_of}
use Rattle.sample_core.specs.TypeTree.{TypeTree, bool_ty, int_ty, pair_ty, event_ty, list_ty}
use Rattle.sample_core.specs.HasType.{HasType, pair_has, no_event_has, event_has, TypedParams}
use Rattle.leaf_core.specs.Expression.{Expression, Expressions, pair_expr, fst, snd, then_expr, neg, add, sub, mul, less, equal, not_expr, and_expr, or_expr, if_expr, event_expr, on, list_expr, nth, len, and_then}
use Rattle.leaf_core.specs.ExpressionValue.{value_of, values_of, wrap, same_datum, is_true, choose, on_event, element_at, count_of}
use Rattle.leaf_core.specs.ExpressionTyping.{ExpressionTyped, ExpressionsTyped, input_typed, param_typed, unit_typed, bool_typed, int_typed, pair_typed, fst_typed, snd_typed, then_typed, neg_typed, add_typed, sub_typed, mul_typed, less_typed, equal_typed, not_typed, and_typed, or_typed, if_typed, no_event_typed, event_typed, on_typed, list_typed, nth_typed, len_typed, no_more_typed, and_then_typed}
use Rattle.leaf_core.specs.Inside.{many}
use Rattle.leaf_core.specs.Parts.{element, with_element, refilled, part, with_part, part_at, with_part_at, PartInput, behind_first, with_event, as_whole, InputAt, input_here, input_inside}
use Rattle.leaf_core.specs.SameValue.{SameValue}
use Rattle.leaf_core.specs.PartLaws.{SamePartLaw}
use Rattle.leaf_core.proofs.Soundness.{typed_value}
use Rattle.leaf_core.proofs.Uniqueness.{one_type}

-- the part c at k of a typed expression: its type, and what the whole becomes with another there
pub record Hole (Ps : List TypeTree) (A B : TypeTree) (e : Expression) (k : ℕ) (c : Expression) (C : TypeTree) : Type 0 where
  pub out : TypeTree
  pub part_typed : ExpressionTyped c Ps C out
  pub whole : Expression → Expression
  pub whole_is : (s : Expression) → with_part e k s ≡ Some (whole s)
  pub whole_typed : (s : Expression) → ExpressionTyped s Ps C out → ExpressionTyped (whole s) Ps A B
  pub whole_same : (s : Expression) → SameValue Ps C c s → SameValue Ps A e (whole s)

-- the same of an element of a list
record ElementHole (Ps : List TypeTree) (A T : TypeTree) (es : Expressions) (k : ℕ) (c : Expression) : Type 0 where
  element_typed : ExpressionTyped c Ps A T
  others : Expression → Expressions
  others_is : (s : Expression) → with_element es k s ≡ Some (others s)
  others_typed : (s : Expression) → ExpressionTyped s Ps A T → ExpressionsTyped (others s) Ps A T
  others_same : (s : Expression) → SameValue Ps A c s → (ps : List Datum) (x : Datum) → TypedParams Ps ps → HasType x A
      → values_of es ps x ≡ values_of (others s) ps x

element_hole : (Ps : List TypeTree) (A T : TypeTree) (es : Expressions) (k : ℕ) (c : Expression) → ExpressionsTyped es Ps A T → element es k ≡ Some c
    → ElementHole Ps A T es k c
element_hole Ps A T es k c no_more_typed p = absurd (none-some c p)
element_hole Ps A T es zero c (and_then_typed {e = e} {es = es'} h hs) p =
    subst (ElementHole Ps A T es 0) (same_Some e c p) (record {
      element_typed = h;
      others = λ s. and_then s es';
      others_is = λ s. refl;
      others_typed = λ s i. and_then_typed i hs;
      others_same = λ s q ps x i j. ap (λ v. v ∷ values_of es' ps x) (q ps x i j);
    })
element_hole Ps A T es (suc k) c (and_then_typed {e = e} {es = es'} h hs) p =
    let r : ElementHole Ps A T es' k c = element_hole Ps A T es' k c hs p in
    record {
      element_typed = r.element_typed;
      others = λ s. and_then e (r.others s);
      others_is = λ s. ap (option_map (and_then e)) (r.others_is s);
      others_typed = λ s i. and_then_typed h (r.others_typed s i);
      others_same = λ s q ps x i j. ap (λ vs. value_of e ps x ∷ vs) (r.others_same s q ps x i j);
    }

-- with an event, what goes on from it
on_event-same : {V : TypeTree} (w d : Datum) (b b' : Datum → Datum) → ((v : Datum) → HasType v V → b v ≡ b' v) → HasType w (event_ty V)
    → on_event w d b ≡ on_event w d b'
on_event-same w d b b' s no_event_has = refl
on_event-same w d b b' s (event_has {v = v} k) = s v k

abbrev inner : TypeTree → TypeTree
inner (event_ty V) = V
inner V = V

module _ (Ps : List TypeTree) (A : TypeTree) where
  abbrev At : TypeTree → Expression → ℕ → Expression → TypeTree → Type 0
  At B e k c C = Hole Ps A B e k c C

  hole : (B : TypeTree) (e : Expression) (k : ℕ) (c : Expression) (C : TypeTree) → ExpressionTyped e Ps A B → part e k ≡ Some c → PartInput Ps A e k C
      → Hole Ps A B e k c C
  hole B e k c C input_typed p i = absurd (none-some c p)
  hole B e k c C (param_typed h) p i = absurd (none-some c p)
  hole B e k c C unit_typed p i = absurd (none-some c p)
  hole B e k c C (bool_typed {b = true}) p i = absurd (none-some c p)
  hole B e k c C (bool_typed {b = false}) p i = absurd (none-some c p)
  hole B e k c C (int_typed h) p i = absurd (none-some c p)
  hole B e k c C no_event_typed p i = absurd (none-some c p)
  hole B e zero c C (pair_typed {B = X} {C = Y} {a = a} {b = b} h j) p (as_whole u) =
      subst (λ z. Hole Ps A B e 0 z C) (same_Some a c p)
      (record { out = X; part_typed = h; whole = λ s. pair_expr s b; whole_is = λ s. refl; whole_typed = λ s t. pair_typed t j; whole_same = λ s q ps x k l. ap (λ v. pair v (value_of b ps x)) (q ps x k l) })
  hole B e (suc zero) c C (pair_typed {B = X} {C = Y} {a = a} {b = b} h j) p (as_whole u) =
      subst (λ z. Hole Ps A B e 1 z C) (same_Some b c p)
      (record { out = Y; part_typed = j; whole = λ s. pair_expr a s; whole_is = λ s. refl; whole_typed = λ s t. pair_typed h t; whole_same = λ s q ps x k l. ap (λ v. pair (value_of a ps x) v) (q ps x k l) })
  hole B e (suc (suc k)) c C (pair_typed {B = X} {C = Y} {a = a} {b = b} h j) p i = absurd (none-some c p)
  hole B e zero c C (fst_typed {C = Y} {e = d} h) p (as_whole u) =
      subst (λ z. Hole Ps A B e 0 z C) (same_Some d c p)
      (record { out = pair_ty B Y; part_typed = h; whole = λ s. fst s; whole_is = λ s. refl; whole_typed = λ s t. fst_typed t; whole_same = λ s q ps x k l. ap (λ v. left v) (q ps x k l) })
  hole B e (suc k) c C (fst_typed {C = Y} {e = d} h) p i = absurd (none-some c p)
  hole B e zero c C (snd_typed {B = X} {e = d} h) p (as_whole u) =
      subst (λ z. Hole Ps A B e 0 z C) (same_Some d c p)
      (record { out = pair_ty X B; part_typed = h; whole = λ s. snd s; whole_is = λ s. refl; whole_typed = λ s t. snd_typed t; whole_same = λ s q ps x k l. ap (λ v. right v) (q ps x k l) })
  hole B e (suc k) c C (snd_typed {B = X} {e = d} h) p i = absurd (none-some c p)
  hole B e zero c C (then_typed {B = X} {f = f} {g = g} h j) p (as_whole u) =
      subst (λ z. Hole Ps A B e 0 z C) (same_Some f c p)
      (record { out = X; part_typed = h; whole = λ s. then_expr s g; whole_is = λ s. refl; whole_typed = λ s t. then_typed t j; whole_same = λ s q ps x k l. ap (value_of g ps) (q ps x k l) })
  hole B e (suc zero) c C (then_typed {B = X} {f = f} {g = g} h j) p (behind_first {B = Z} i) =
      subst (λ T. Hole Ps A B e 1 c T) (one_type f Ps A X Z h i)
      (subst (λ z. Hole Ps A B e 1 z X) (same_Some g c p)
      (record { out = B; part_typed = j; whole = λ s. then_expr f s; whole_is = λ s. refl; whole_typed = λ s t. then_typed h t; whole_same = λ s q ps x k l. q ps (value_of f ps x) k (typed_value f Ps A X h ps x k l) }))
  hole B e (suc zero) c C (then_typed {B = X} {f = f} {g = g} h j) p (as_whole u) = absurd u
  hole B e (suc (suc k)) c C (then_typed {B = X} {f = f} {g = g} h j) p i = absurd (none-some c p)
  hole B e zero c C (neg_typed {a = a} h) p (as_whole u) =
      subst (λ z. Hole Ps A B e 0 z C) (same_Some a c p)
      (record { out = int_ty; part_typed = h; whole = λ s. neg s; whole_is = λ s. refl; whole_typed = λ s t. neg_typed t; whole_same = λ s q ps x k l. ap (λ v. wrap (neg_ℤ (int_of v))) (q ps x k l) })
  hole B e (suc k) c C (neg_typed {a = a} h) p i = absurd (none-some c p)
  hole B e zero c C (add_typed {a = a} {b = b} h j) p (as_whole u) =
      subst (λ z. Hole Ps A B e 0 z C) (same_Some a c p)
      (record { out = int_ty; part_typed = h; whole = λ s. add s b; whole_is = λ s. refl; whole_typed = λ s t. add_typed t j; whole_same = λ s q ps x k l. ap (λ v. wrap (int_of v +ℤ int_of (value_of b ps x))) (q ps x k l) })
  hole B e (suc zero) c C (add_typed {a = a} {b = b} h j) p (as_whole u) =
      subst (λ z. Hole Ps A B e 1 z C) (same_Some b c p)
      (record { out = int_ty; part_typed = j; whole = λ s. add a s; whole_is = λ s. refl; whole_typed = λ s t. add_typed h t; whole_same = λ s q ps x k l. ap (λ v. wrap (int_of (value_of a ps x) +ℤ int_of v)) (q ps x k l) })
  hole B e (suc (suc k)) c C (add_typed {a = a} {b = b} h j) p i = absurd (none-some c p)
  hole B e zero c C (sub_typed {a = a} {b = b} h j) p (as_whole u) =
      subst (λ z. Hole Ps A B e 0 z C) (same_Some a c p)
      (record { out = int_ty; part_typed = h; whole = λ s. sub s b; whole_is = λ s. refl; whole_typed = λ s t. sub_typed t j; whole_same = λ s q ps x k l. ap (λ v. wrap (int_of v -ℤ int_of (value_of b ps x))) (q ps x k l) })
  hole B e (suc zero) c C (sub_typed {a = a} {b = b} h j) p (as_whole u) =
      subst (λ z. Hole Ps A B e 1 z C) (same_Some b c p)
      (record { out = int_ty; part_typed = j; whole = λ s. sub a s; whole_is = λ s. refl; whole_typed = λ s t. sub_typed h t; whole_same = λ s q ps x k l. ap (λ v. wrap (int_of (value_of a ps x) -ℤ int_of v)) (q ps x k l) })
  hole B e (suc (suc k)) c C (sub_typed {a = a} {b = b} h j) p i = absurd (none-some c p)
  hole B e zero c C (mul_typed {a = a} {b = b} h j) p (as_whole u) =
      subst (λ z. Hole Ps A B e 0 z C) (same_Some a c p)
      (record { out = int_ty; part_typed = h; whole = λ s. mul s b; whole_is = λ s. refl; whole_typed = λ s t. mul_typed t j; whole_same = λ s q ps x k l. ap (λ v. wrap (int_of v *ℤ int_of (value_of b ps x))) (q ps x k l) })
  hole B e (suc zero) c C (mul_typed {a = a} {b = b} h j) p (as_whole u) =
      subst (λ z. Hole Ps A B e 1 z C) (same_Some b c p)
      (record { out = int_ty; part_typed = j; whole = λ s. mul a s; whole_is = λ s. refl; whole_typed = λ s t. mul_typed h t; whole_same = λ s q ps x k l. ap (λ v. wrap (int_of (value_of a ps x) *ℤ int_of v)) (q ps x k l) })
  hole B e (suc (suc k)) c C (mul_typed {a = a} {b = b} h j) p i = absurd (none-some c p)
  hole B e zero c C (less_typed {a = a} {b = b} h j) p (as_whole u) =
      subst (λ z. Hole Ps A B e 0 z C) (same_Some a c p)
      (record { out = int_ty; part_typed = h; whole = λ s. less s b; whole_is = λ s. refl; whole_typed = λ s t. less_typed t j; whole_same = λ s q ps x k l. ap (λ v. bool (int_lt (int_of v) (int_of (value_of b ps x)))) (q ps x k l) })
  hole B e (suc zero) c C (less_typed {a = a} {b = b} h j) p (as_whole u) =
      subst (λ z. Hole Ps A B e 1 z C) (same_Some b c p)
      (record { out = int_ty; part_typed = j; whole = λ s. less a s; whole_is = λ s. refl; whole_typed = λ s t. less_typed h t; whole_same = λ s q ps x k l. ap (λ v. bool (int_lt (int_of (value_of a ps x)) (int_of v))) (q ps x k l) })
  hole B e (suc (suc k)) c C (less_typed {a = a} {b = b} h j) p i = absurd (none-some c p)
  hole B e zero c C (equal_typed {B = X} {a = a} {b = b} h j) p (as_whole u) =
      subst (λ z. Hole Ps A B e 0 z C) (same_Some a c p)
      (record { out = X; part_typed = h; whole = λ s. equal s b; whole_is = λ s. refl; whole_typed = λ s t. equal_typed t j; whole_same = λ s q ps x k l. ap (λ v. bool (same_datum v (value_of b ps x))) (q ps x k l) })
  hole B e (suc zero) c C (equal_typed {B = X} {a = a} {b = b} h j) p (as_whole u) =
      subst (λ z. Hole Ps A B e 1 z C) (same_Some b c p)
      (record { out = X; part_typed = j; whole = λ s. equal a s; whole_is = λ s. refl; whole_typed = λ s t. equal_typed h t; whole_same = λ s q ps x k l. ap (λ v. bool (same_datum (value_of a ps x) v)) (q ps x k l) })
  hole B e (suc (suc k)) c C (equal_typed {B = X} {a = a} {b = b} h j) p i = absurd (none-some c p)
  hole B e zero c C (not_typed {a = a} h) p (as_whole u) =
      subst (λ z. Hole Ps A B e 0 z C) (same_Some a c p)
      (record { out = bool_ty; part_typed = h; whole = λ s. not_expr s; whole_is = λ s. refl; whole_typed = λ s t. not_typed t; whole_same = λ s q ps x k l. ap (λ v. bool (not (is_true v))) (q ps x k l) })
  hole B e (suc k) c C (not_typed {a = a} h) p i = absurd (none-some c p)
  hole B e zero c C (and_typed {a = a} {b = b} h j) p (as_whole u) =
      subst (λ z. Hole Ps A B e 0 z C) (same_Some a c p)
      (record { out = bool_ty; part_typed = h; whole = λ s. and_expr s b; whole_is = λ s. refl; whole_typed = λ s t. and_typed t j; whole_same = λ s q ps x k l. ap (λ v. bool (is_true v && is_true (value_of b ps x))) (q ps x k l) })
  hole B e (suc zero) c C (and_typed {a = a} {b = b} h j) p (as_whole u) =
      subst (λ z. Hole Ps A B e 1 z C) (same_Some b c p)
      (record { out = bool_ty; part_typed = j; whole = λ s. and_expr a s; whole_is = λ s. refl; whole_typed = λ s t. and_typed h t; whole_same = λ s q ps x k l. ap (λ v. bool (is_true (value_of a ps x) && is_true v)) (q ps x k l) })
  hole B e (suc (suc k)) c C (and_typed {a = a} {b = b} h j) p i = absurd (none-some c p)
  hole B e zero c C (or_typed {a = a} {b = b} h j) p (as_whole u) =
      subst (λ z. Hole Ps A B e 0 z C) (same_Some a c p)
      (record { out = bool_ty; part_typed = h; whole = λ s. or_expr s b; whole_is = λ s. refl; whole_typed = λ s t. or_typed t j; whole_same = λ s q ps x k l. ap (λ v. bool (is_true v || is_true (value_of b ps x))) (q ps x k l) })
  hole B e (suc zero) c C (or_typed {a = a} {b = b} h j) p (as_whole u) =
      subst (λ z. Hole Ps A B e 1 z C) (same_Some b c p)
      (record { out = bool_ty; part_typed = j; whole = λ s. or_expr a s; whole_is = λ s. refl; whole_typed = λ s t. or_typed h t; whole_same = λ s q ps x k l. ap (λ v. bool (is_true (value_of a ps x) || is_true v)) (q ps x k l) })
  hole B e (suc (suc k)) c C (or_typed {a = a} {b = b} h j) p i = absurd (none-some c p)
  hole B e zero c C (if_typed {c = d} {a = a} {b = b} h j m) p (as_whole u) =
      subst (λ z. Hole Ps A B e 0 z C) (same_Some d c p)
      (record { out = bool_ty; part_typed = h; whole = λ s. if_expr s a b; whole_is = λ s. refl; whole_typed = λ s t. if_typed t j m; whole_same = λ s q ps x k l. ap (λ v. choose (is_true v) (value_of a ps x) (value_of b ps x)) (q ps x k l) })
  hole B e (suc zero) c C (if_typed {c = d} {a = a} {b = b} h j m) p (as_whole u) =
      subst (λ z. Hole Ps A B e 1 z C) (same_Some a c p)
      (record { out = B; part_typed = j; whole = λ s. if_expr d s b; whole_is = λ s. refl; whole_typed = λ s t. if_typed h t m; whole_same = λ s q ps x k l. ap (λ v. choose (is_true (value_of d ps x)) v (value_of b ps x)) (q ps x k l) })
  hole B e (suc (suc zero)) c C (if_typed {c = d} {a = a} {b = b} h j m) p (as_whole u) =
      subst (λ z. Hole Ps A B e 2 z C) (same_Some b c p)
      (record { out = B; part_typed = m; whole = λ s. if_expr d a s; whole_is = λ s. refl; whole_typed = λ s t. if_typed h j t; whole_same = λ s q ps x k l. ap (λ v. choose (is_true (value_of d ps x)) (value_of a ps x) v) (q ps x k l) })
  hole B e (suc (suc (suc k))) c C (if_typed {c = d} {a = a} {b = b} h j m) p i = absurd (none-some c p)
  hole B e zero c C (event_typed {B = X} {e = d} h) p (as_whole u) =
      subst (λ z. Hole Ps A B e 0 z C) (same_Some d c p)
      (record { out = X; part_typed = h; whole = λ s. event_expr s; whole_is = λ s. refl; whole_typed = λ s t. event_typed t; whole_same = λ s q ps x k l. ap (λ v. event v) (q ps x k l) })
  hole B e (suc k) c C (event_typed {B = X} {e = d} h) p i = absurd (none-some c p)
  hole B e zero c C (on_typed {V = V} {e = a} {d = d} {b = b} h j m) p (as_whole u) =
      subst (λ z. Hole Ps A B e 0 z C) (same_Some a c p)
      (record { out = event_ty V; part_typed = h; whole = λ s. on s d b; whole_is = λ s. refl; whole_typed = λ s t. on_typed t j m; whole_same = λ s q ps x k l. ap (λ v. on_event v (value_of d ps x) (λ w. value_of b ps (pair x w))) (q ps x k l) })
  hole B e (suc zero) c C (on_typed {V = V} {e = a} {d = d} {b = b} h j m) p (as_whole u) =
      subst (λ z. Hole Ps A B e 1 z C) (same_Some d c p)
      (record { out = B; part_typed = j; whole = λ s. on a s b; whole_is = λ s. refl; whole_typed = λ s t. on_typed h t m; whole_same = λ s q ps x k l. ap (λ v. on_event (value_of a ps x) v (λ w. value_of b ps (pair x w))) (q ps x k l) })
  hole B e (suc (suc zero)) c C (on_typed {V = V} {e = a} {d = d} {b = b} h j m) p (with_event {V = Z} i) =
      subst (λ T. Hole Ps A B e 2 c (pair_ty A T)) (ap inner (one_type a Ps A (event_ty V) (event_ty Z) h i))
      (subst (λ z. Hole Ps A B e 2 z (pair_ty A V)) (same_Some b c p)
      (record { out = B; part_typed = m; whole = λ s. on a d s; whole_is = λ s. refl; whole_typed = λ s t. on_typed h j t; whole_same = λ s q ps x k l. on_event-same (value_of a ps x) (value_of d ps x) (λ w. value_of b ps (pair x w)) (λ w. value_of s ps (pair x w)) (λ w i. q ps (pair x w) k (pair_has l i)) (typed_value a Ps A (event_ty V) h ps x k l) }))
  hole B e (suc (suc zero)) c C (on_typed {V = V} {e = a} {d = d} {b = b} h j m) p (as_whole u) = absurd u
  hole B e (suc (suc (suc k))) c C (on_typed {V = V} {e = a} {d = d} {b = b} h j m) p i = absurd (none-some c p)
  hole B e k c C (list_typed {T = T} {es = es} hs) p (as_whole u) =
      let r : ElementHole Ps A T es k c = element_hole Ps A T es k c hs p in
      record {
        out = T;
        part_typed = r.element_typed;
        whole = λ s. list_expr T (r.others s);
        whole_is = λ s. ap (λ o. option_map (refilled e) (option_map (many T) o)) (r.others_is s);
        whole_typed = λ s t. list_typed (r.others_typed s t);
        whole_same = λ s q ps x k l. ap (λ vs. list (list_of vs)) (r.others_same s q ps x k l);
      }
  hole B e zero c C (nth_typed {e = a} {i = b} {d = d} h j m) p (as_whole u) =
      subst (λ z. Hole Ps A B e 0 z C) (same_Some a c p)
      (record { out = list_ty B; part_typed = h; whole = λ s. nth s b d; whole_is = λ s. refl; whole_typed = λ s t. nth_typed t j m; whole_same = λ s q ps x k l. ap (λ v. element_at v (int_of (value_of b ps x)) (value_of d ps x)) (q ps x k l) })
  hole B e (suc zero) c C (nth_typed {e = a} {i = b} {d = d} h j m) p (as_whole u) =
      subst (λ z. Hole Ps A B e 1 z C) (same_Some b c p)
      (record { out = int_ty; part_typed = j; whole = λ s. nth a s d; whole_is = λ s. refl; whole_typed = λ s t. nth_typed h t m; whole_same = λ s q ps x k l. ap (λ v. element_at (value_of a ps x) (int_of v) (value_of d ps x)) (q ps x k l) })
  hole B e (suc (suc zero)) c C (nth_typed {e = a} {i = b} {d = d} h j m) p (as_whole u) =
      subst (λ z. Hole Ps A B e 2 z C) (same_Some d c p)
      (record { out = B; part_typed = m; whole = λ s. nth a b s; whole_is = λ s. refl; whole_typed = λ s t. nth_typed h j t; whole_same = λ s q ps x k l. ap (λ v. element_at (value_of a ps x) (int_of (value_of b ps x)) v) (q ps x k l) })
  hole B e (suc (suc (suc k))) c C (nth_typed {e = a} {i = b} {d = d} h j m) p i = absurd (none-some c p)
  hole B e zero c C (len_typed {T = X} {e = d} h) p (as_whole u) =
      subst (λ z. Hole Ps A B e 0 z C) (same_Some d c p)
      (record { out = list_ty X; part_typed = h; whole = λ s. len s; whole_is = λ s. refl; whole_typed = λ s t. len_typed t; whole_same = λ s q ps x k l. ap (λ v. wrap (pos (count_of v))) (q ps x k l) })
  hole B e (suc k) c C (len_typed {T = X} {e = d} h) p i = absurd (none-some c p)

-- the part at a path of a typed expression: its type, and what the whole becomes with another there
pub record PathHole (Ps : List TypeTree) (A B : TypeTree) (e : Expression) (path : List ℕ) (c : Expression) (C : TypeTree) : Type 0 where
  pub out : TypeTree
  pub part_typed : ExpressionTyped c Ps C out
  pub whole : Expression → Expression
  pub whole_is : (s : Expression) → with_part_at e path s ≡ Some (whole s)
  pub whole_typed : (s : Expression) → ExpressionTyped s Ps C out → ExpressionTyped (whole s) Ps A B
  pub whole_same : (s : Expression) → SameValue Ps C c s → SameValue Ps A e (whole s)

-- what is found behind a step
found_behind : {X Y : Type 0} (o : Option X) (x : X) (f : X → Option Y) (y : Y) → o ≡ Some x → option_and_then f o ≡ Some y → f x ≡ Some y
found_behind o x f y p q = ap (option_and_then f) (sym p) ∙ q

pub path_hole : (Ps : List TypeTree) (A B : TypeTree) (e : Expression) (path : List ℕ) (c : Expression) (C : TypeTree) → ExpressionTyped e Ps A B
    → part_at e path ≡ Some c → InputAt Ps A e path C → PathHole Ps A B e path c C
path_hole Ps A B e path c C d p input_here =
    subst (λ z. PathHole Ps A B e [] z A) (same_Some e c p)
    (record { out = B; part_typed = d; whole = λ s. s; whole_is = λ s. refl; whole_typed = λ s t. t; whole_same = λ s q. q })
path_hole Ps A B e path c C d p (input_inside {B = X} {c = b} {k = k} {p = p'} found i is) =
    let h : Hole Ps A B e k b X = hole Ps A B e k b X d found i in
    let r : PathHole Ps X h.out b p' c C = path_hole Ps X h.out b p' c C h.part_typed (found_behind (part e k) b (λ z. part_at z p') c found p) is in
    record {
      out = r.out;
      part_typed = r.part_typed;
      whole = λ s. h.whole (r.whole s);
      whole_is = λ s. ap (option_and_then (λ z. option_and_then (with_part e k) (with_part_at z p' s))) found
          ∙ ap (option_and_then (with_part e k)) (r.whole_is s) ∙ h.whole_is (r.whole s);
      whole_typed = λ s t. h.whole_typed (r.whole s) (r.whole_typed s t);
      whole_same = λ s q. h.whole_same (r.whole s) (r.whole_same s q);
    }

pub same_part : SamePartLaw
same_part Ps A B C D path e part whole other d i p w dc ds q =
    let h : PathHole Ps A B e path part C = path_hole Ps A B e path part C d p i in
    let is : h.whole other ≡ whole = same_Some (h.whole other) whole (sym (h.whole_is other) ∙ w) in
    let ds' : ExpressionTyped other Ps C h.out = subst (ExpressionTyped other Ps C) (one_type part Ps C D h.out dc h.part_typed) ds in (
      subst (λ z. ExpressionTyped z Ps A B) is (h.whole_typed other ds'),
      subst (SameValue Ps A e) is (h.whole_same other q),
    )
