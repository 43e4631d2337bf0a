-- An expression that is typed within the limits stays so where a part is another, whose type there is that of the part.
use Rattle.std.proofs.Common.{◌≡◌, ℕ, zero, suc, List, [], ◌∷◌, Option, Some, None, IfSome, Result, Ok, Err, true, false, refl, sym, ap, subst, ◌∙◌}
use Rattle.std.specs.Option.{option_map, option_and_then}
use Rattle.std.specs.Result.{result_ok}
use Rattle.std.proofs.lemmas.Option.{none-some, same_Some}
use Rattle.sample_core.specs.TypeTree.{TypeTree, pair_ty, list_ty}
use Rattle.leaf_core.specs.Expression.{Expression, Expressions, and_then, list_expr}
use Rattle.leaf_core.specs.ExpressionTyping.{ExpressionTyped, ExpressionsTyped, bool_typed, pair_typed, fst_typed, snd_typed, then_typed, neg_typed, add_typed, sub_typed, mul_typed, less_typed, equal_typed, not_typed, and_typed, or_typed, if_typed, event_typed, on_typed, list_typed, nth_typed, len_typed, no_more_typed, and_then_typed}
use Rattle.leaf_core.specs.ExpressionLimits.{Within, AllWithin, TypedWithin}
use Rattle.leaf_core.specs.Inside.{many}
use Rattle.leaf_core.specs.Parts.{element, with_element, refilled, part, with_part, with_part_at}
use Rattle.leaf_core.specs.PartWalk.{with_carried, part_input, part_type_at}
use Rattle.leaf_core.proofs.Exactness.{walk-complete, walk-sound}
use Rattle.leaf_core.proofs.PartTypes.{value_is, Inner, inner}

-- part k of an expression of type B, which gets an A: the type of what it gets and its own; another part gets the same, and one of that type leaves the whole a B
pub record WithinPart (Ps : List TypeTree) (A B : TypeTree) (e : Expression) (k : ℕ) (c : Expression) : Type 0 where
  pub input : TypeTree
  pub found : part_input Ps A e k ≡ Some input
  pub output : TypeTree
  pub typed : TypedWithin c Ps input output
  pub put : (s : Expression)
      → IfSome (with_part e k s) (λ v. (part v k ≡ Some s) × (part_input Ps A v k ≡ Some input) × (TypedWithin s Ps input output → TypedWithin v Ps A B))

with_limits : {Ps : List TypeTree} {A B : TypeTree} {e : Expression} (d : ExpressionTyped e Ps A B) → Within d → TypedWithin e Ps A B
with_limits d w = record { given = d; fits = w }

as_whole : {Ps : List TypeTree} {A B C : TypeTree} {e c : Expression} {k : ℕ} → part_input Ps A e k ≡ Some A → (d : ExpressionTyped c Ps A C) → Within d
    → ((s : Expression) → IfSome (with_part e k s) (λ v. (part v k ≡ Some s) × (part_input Ps A v k ≡ Some A) × (TypedWithin s Ps A C → TypedWithin v Ps A B)))
    → WithinPart Ps A B e k c
as_whole {A = A} {C = C} f d w p = record { input = A; found = f; output = C; typed = with_limits d w; put = p }

-- the elements of a list expression
abbrev AllTypedWithin : List TypeTree → TypeTree → TypeTree → Expressions → Type 0
AllTypedWithin Ps A T es = (ds : ExpressionsTyped es Ps A T) × AllWithin ds

abbrev ElementWithin : List TypeTree → TypeTree → TypeTree → Expressions → ℕ → Expression → Type 0
ElementWithin Ps A T es k c =
    TypedWithin c Ps A T
    × ((s : Expression) → IfSome (with_element es k s) (λ v. (element v k ≡ Some s) × (TypedWithin s Ps A T → AllTypedWithin Ps A T v)))

element_within : {Ps : List TypeTree} {A T : TypeTree} {es : Expressions} (ds : ExpressionsTyped es Ps A T) → AllWithin ds → (k : ℕ)
    → IfSome (element es k) (ElementWithin Ps A T es k)
element_within no_more_typed w k = tt
element_within (and_then_typed d ds) w zero = (with_limits d w.0, λ s. (refl, λ t. (and_then_typed t.given ds, (t.fits, w.1))))
element_within {Ps = Ps} {A = A} {T = T} (and_then_typed {e = e} {es = es} d ds) w (suc k) = go (element es k) (element_within ds w.1 k)
  where
    put_on : (s : Expression) → (o : Option Expressions) → IfSome o (λ v. (element v k ≡ Some s) × (TypedWithin s Ps A T → AllTypedWithin Ps A T v))
        → IfSome (option_map (and_then e) o) (λ v. (element v (suc k) ≡ Some s) × (TypedWithin s Ps A T → AllTypedWithin Ps A T v))
    put_on s None h = tt
    put_on s (Some v) h = (h.0, λ t. let all = h.1 t in (and_then_typed d all.0, (w.0, all.1)))

    go : (o : Option Expression) → IfSome o (ElementWithin Ps A T es k) → IfSome o (ElementWithin Ps A T (and_then e es) (suc k))
    go None h = tt
    go (Some c) h = (h.0, λ s. put_on s (with_element es k s) (h.1 s))

pub within_part : {e : Expression} {Ps : List TypeTree} {A B : TypeTree} (d : ExpressionTyped e Ps A B) → Within d → (k : ℕ)
    → IfSome (part e k) (WithinPart Ps A B e k)
within_part (pair_typed h i) w zero = as_whole refl h w.0 (λ s. (refl, refl, λ t. with_limits (pair_typed t.given i) (t.fits, w.1, w.2)))
within_part (pair_typed h i) w (suc zero) = as_whole refl i w.1 (λ s. (refl, refl, λ t. with_limits (pair_typed h t.given) (w.0, t.fits, w.2)))
within_part (fst_typed h) w zero = as_whole refl h w.0 (λ s. (refl, refl, λ t. with_limits (fst_typed t.given) (t.fits, w.1)))
within_part (snd_typed h) w zero = as_whole refl h w.0 (λ s. (refl, refl, λ t. with_limits (snd_typed t.given) (t.fits, w.1)))
within_part (then_typed h i) w zero = as_whole refl h w.0 (λ s. (refl, refl, λ t. with_limits (then_typed t.given i) (t.fits, w.1, w.2)))
within_part (then_typed {B = B} {C = C} h i) w (suc zero) =
    let found = ap result_ok (walk-complete h w.0) in
    record { input = B; found = found; output = C; typed = with_limits i w.1; put = λ s. (refl, found, λ t. with_limits (then_typed h t.given) (w.0, t.fits, w.2)) }
within_part (neg_typed h) w zero = as_whole refl h w.0 (λ s. (refl, refl, λ t. with_limits (neg_typed t.given) (t.fits, w.1)))
within_part (add_typed h i) w zero = as_whole refl h w.0 (λ s. (refl, refl, λ t. with_limits (add_typed t.given i) (t.fits, w.1, w.2)))
within_part (add_typed h i) w (suc zero) = as_whole refl i w.1 (λ s. (refl, refl, λ t. with_limits (add_typed h t.given) (w.0, t.fits, w.2)))
within_part (sub_typed h i) w zero = as_whole refl h w.0 (λ s. (refl, refl, λ t. with_limits (sub_typed t.given i) (t.fits, w.1, w.2)))
within_part (sub_typed h i) w (suc zero) = as_whole refl i w.1 (λ s. (refl, refl, λ t. with_limits (sub_typed h t.given) (w.0, t.fits, w.2)))
within_part (mul_typed h i) w zero = as_whole refl h w.0 (λ s. (refl, refl, λ t. with_limits (mul_typed t.given i) (t.fits, w.1, w.2)))
within_part (mul_typed h i) w (suc zero) = as_whole refl i w.1 (λ s. (refl, refl, λ t. with_limits (mul_typed h t.given) (w.0, t.fits, w.2)))
within_part (less_typed h i) w zero = as_whole refl h w.0 (λ s. (refl, refl, λ t. with_limits (less_typed t.given i) (t.fits, w.1, w.2)))
within_part (less_typed h i) w (suc zero) = as_whole refl i w.1 (λ s. (refl, refl, λ t. with_limits (less_typed h t.given) (w.0, t.fits, w.2)))
within_part (equal_typed h i) w zero = as_whole refl h w.0 (λ s. (refl, refl, λ t. with_limits (equal_typed t.given i) (t.fits, w.1, w.2)))
within_part (equal_typed h i) w (suc zero) = as_whole refl i w.1 (λ s. (refl, refl, λ t. with_limits (equal_typed h t.given) (w.0, t.fits, w.2)))
within_part (not_typed h) w zero = as_whole refl h w.0 (λ s. (refl, refl, λ t. with_limits (not_typed t.given) (t.fits, w.1)))
within_part (and_typed h i) w zero = as_whole refl h w.0 (λ s. (refl, refl, λ t. with_limits (and_typed t.given i) (t.fits, w.1, w.2)))
within_part (and_typed h i) w (suc zero) = as_whole refl i w.1 (λ s. (refl, refl, λ t. with_limits (and_typed h t.given) (w.0, t.fits, w.2)))
within_part (or_typed h i) w zero = as_whole refl h w.0 (λ s. (refl, refl, λ t. with_limits (or_typed t.given i) (t.fits, w.1, w.2)))
within_part (or_typed h i) w (suc zero) = as_whole refl i w.1 (λ s. (refl, refl, λ t. with_limits (or_typed h t.given) (w.0, t.fits, w.2)))
within_part (if_typed h i j) w zero = as_whole refl h w.0 (λ s. (refl, refl, λ t. with_limits (if_typed t.given i j) (t.fits, w.1, w.2, w.3)))
within_part (if_typed h i j) w (suc zero) = as_whole refl i w.1 (λ s. (refl, refl, λ t. with_limits (if_typed h t.given j) (w.0, t.fits, w.2, w.3)))
within_part (if_typed h i j) w (suc (suc zero)) = as_whole refl j w.2 (λ s. (refl, refl, λ t. with_limits (if_typed h i t.given) (w.0, w.1, t.fits, w.3)))
within_part (event_typed h) w zero = as_whole refl h w.0 (λ s. (refl, refl, λ t. with_limits (event_typed t.given) (t.fits, w.1)))
within_part (on_typed h i j) w zero = as_whole refl h w.0 (λ s. (refl, refl, λ t. with_limits (on_typed t.given i j) (t.fits, w.1, w.2, w.3, w.4)))
within_part (on_typed h i j) w (suc zero) = as_whole refl i w.1 (λ s. (refl, refl, λ t. with_limits (on_typed h t.given j) (w.0, t.fits, w.2, w.3, w.4)))
within_part (on_typed {A = A} {C = C} {V = V} h i j) w (suc (suc zero)) =
    let found = ap (λ r. option_and_then (with_carried A) (result_ok r)) (walk-complete h w.0) in
    record {
      input = pair_ty A V;
      found = found;
      output = C;
      typed = with_limits j w.3;
      put = λ s. (refl, found, λ t. with_limits (on_typed h i t.given) (w.0, w.1, w.2, t.fits, w.4));
    }
within_part {Ps = Ps} {A = A} (list_typed {T = T} {es = es} hs) w k = go (element es k) (element_within hs w.1 k)
  where
    put_in : (s : Expression) → (o : Option Expressions) → IfSome o (λ v. (element v k ≡ Some s) × (TypedWithin s Ps A T → AllTypedWithin Ps A T v))
        → IfSome (option_map (refilled (list_expr T es)) (option_map (many T) o))
        (λ v. (part v k ≡ Some s) × (part_input Ps A v k ≡ Some A) × (TypedWithin s Ps A T → TypedWithin v Ps A (list_ty T)))
    put_in s None h = tt
    put_in s (Some v) h = (h.0, refl, λ t. let all = h.1 t in with_limits (list_typed all.0) (w.0, all.1, w.2))

    go : (o : Option Expression) → IfSome o (ElementWithin Ps A T es k) → IfSome o (WithinPart Ps A (list_ty T) (list_expr T es) k)
    go None h = tt
    go (Some c) h = as_whole refl h.0.given h.0.fits (λ s. put_in s (with_element es k s) (h.1 s))
within_part (nth_typed h i j) w zero = as_whole refl h w.0 (λ s. (refl, refl, λ t. with_limits (nth_typed t.given i j) (t.fits, w.1, w.2, w.3)))
within_part (nth_typed h i j) w (suc zero) = as_whole refl i w.1 (λ s. (refl, refl, λ t. with_limits (nth_typed h t.given j) (w.0, t.fits, w.2, w.3)))
within_part (nth_typed h i j) w (suc (suc zero)) = as_whole refl j w.2 (λ s. (refl, refl, λ t. with_limits (nth_typed h i t.given) (w.0, w.1, t.fits, w.3)))
within_part (len_typed h) w zero = as_whole refl h w.0 (λ s. (refl, refl, λ t. with_limits (len_typed t.given) (t.fits, w.1)))
within_part (bool_typed {b = false}) w k = tt
within_part (bool_typed {b = true}) w k = tt
within_part _ w k = tt

-- what is found at a path, found at its rest in the part
below : (Ps : List TypeTree) (A D C : TypeTree) (e c : Expression) (k : ℕ) (p : List ℕ) → part e k ≡ Some c → part_input Ps A e k ≡ Some D
    → part_type_at Ps A e (k ∷ p) ≡ Some C → part_type_at Ps D c p ≡ Some C
below Ps A D C e c k p j f h =
    sym (ap (option_and_then (λ z. option_and_then (λ X. part_type_at Ps X z p) (part_input Ps A e k))) j ∙ ap (option_and_then (λ X. part_type_at Ps X c p)) f) ∙ h

-- another that has at a path the type of what stands there leaves the whole of its type, within the limits
pub put_there : (p : List ℕ) {Ps : List TypeTree} {A B : TypeTree} (e s v : Expression) (C : TypeTree) → TypedWithin e Ps A B → with_part_at e p s ≡ Some v
    → part_type_at Ps A e p ≡ Some C → part_type_at Ps A v p ≡ Some C → TypedWithin v Ps A B
put_there [] {Ps = Ps} {A = A} {B = B} e s v C d q f g =
    let same : C ≡ B = same_Some C B (sym f ∙ ap result_ok (walk-complete d.given d.fits)) in
    subst (TypedWithin v Ps A) same (walk-sound v Ps A C (ok_of g))
  where
    ok_of : {X E : Type 0} {r : Result X E} {x : X} → result_ok r ≡ Some x → r ≡ Ok x
    ok_of {r = Ok y} {x = x} h = ap Ok (same_Some y x h)
    ok_of {r = Err z} {x = x} h = absurd (none-some x h)
put_there (k ∷ p) {Ps = Ps} {A = A} {B = B} e s v C d q f g =
    let t : Inner e k p s v = inner e k p s v q in
    let y : WithinPart Ps A B e k t.before = value_is (WithinPart Ps A B e k) t.there (within_part d.given d.fits k) in
    let w : (part v k ≡ Some t.now) × (part_input Ps A v k ≡ Some y.input) × (TypedWithin t.now Ps y.input y.output → TypedWithin v Ps A B) =
    value_is (λ z. (part z k ≡ Some t.now) × (part_input Ps A z k ≡ Some y.input) × (TypedWithin t.now Ps y.input y.output → TypedWithin z Ps A B)) t.is
    (y.put t.now) in
    w.2 (put_there p t.before s t.now C y.typed t.changed (below Ps A y.input C e t.before k p t.there y.found f) (below Ps A y.input C v t.now k p w.0 w.1 g))
