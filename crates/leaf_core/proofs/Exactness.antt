-- The checking walk answers a type exactly where the expression has it and the limits hold.
use Rattle.std.proofs.Common.{◌≡◌, IsTrue, ℕ, zero, suc, ◌≤◌, ℤ, Bool, true, false, ◌&&◌, leb, List, [], ◌∷◌, Ok, Err, refl, sym, ap, ◌∙◌, subst, Decides, FitsSigned, w64, le-leb, leb-true, ◌↔◌}
use Rattle.std.specs.Int.{int_wrap}
use Rattle.std.specs.Ordering.{int_eq}
use Rattle.std.proofs.lemmas.Int.{SFits-int_wrap, int_wrap_fits}
use Rattle.std.proofs.lemmas.Bool.Decides.{Decides-and, Decides-like, Decides-int_eq, same_from_decides}
use Rattle.sample_core.specs.TypeTree.{TypeTree, depth_of, nodes_of, unit_ty, bool_ty, int_ty, pair_ty, event_ty, list_ty}
use Rattle.leaf_core.specs.Expression.{Expression, Expressions, height_of, nodes_in, input, param, unit_expr, bool_expr, int_expr, pair_expr, fst, snd, then_expr, neg, add, sub, mul, less, equal, not_expr, and_expr, or_expr, if_expr, no_event_expr, event_expr, on, list_expr, nth, len, no_more, and_then}
use Rattle.leaf_core.specs.ExpressionTyping.{ParamAt, param_here, param_after, ExpressionTyped, ExpressionsTyped, input_typed, param_typed, unit_typed, bool_typed, int_typed, pair_typed, fst_typed, snd_typed, then_typed, neg_typed, add_typed, sub_typed, mul_typed, less_typed, equal_typed, not_typed, and_typed, or_typed, if_typed, no_event_typed, event_typed, on_typed, list_typed, nth_typed, len_typed, no_more_typed, and_then_typed}
use Rattle.leaf_core.specs.TypeLimits.{TypeFits, type_fits, same_tree}
use Rattle.leaf_core.specs.ExpressionLimits.{ExpressionFits, expression_fits, Within, AllWithin, TypedWithin, ExpressionTypedWithin}
use Rattle.sample_core.specs.Answer.{◌>>=◌}
use Rattle.sample_core.proofs.Numbers.{parts_of}
use Rattle.leaf_core.specs.ExpressionCheck.{TypeAnswer, check_that, expect, expect_then, within_limits, first_type, second_type, carried_type, element_type, type_of_param, type_walk, elements_walk, type_answer}
use Rattle.leaf_core.proofs.SameDatum.{false_is_not_true}
use Rattle.leaf_core.specs.declared.typing.ExprFault.{ExprFault}
use Rattle.leaf_core.specs.declared.typing.ExprFault.TheVariants.{Mismatch, TooDeep}

-- tests
pub same_tree-refl : (A : TypeTree) → same_tree A A ≡ true
same_tree-refl unit_ty = refl
same_tree-refl bool_ty = refl
same_tree-refl int_ty = refl
same_tree-refl (pair_ty A B) = ap (λ t. t && same_tree B B) (same_tree-refl A) ∙ same_tree-refl B
same_tree-refl (event_ty A) = same_tree-refl A
same_tree-refl (list_ty A) = same_tree-refl A

pub same_tree-true : (A B : TypeTree) → same_tree A B ≡ true → A ≡ B
same_tree-true unit_ty unit_ty e = refl
same_tree-true bool_ty bool_ty e = refl
same_tree-true int_ty int_ty e = refl
same_tree-true (pair_ty A B) (pair_ty C D) e =
    let h = parts_of (same_tree A C) (same_tree B D) e in
    ap (λ t. pair_ty t B) (same_tree-true A C h.0) ∙ ap (λ t. pair_ty C t) (same_tree-true B D h.1)
same_tree-true (event_ty A) (event_ty B) e = ap event_ty (same_tree-true A B e)
same_tree-true (list_ty A) (list_ty B) e = ap list_ty (same_tree-true A B e)
same_tree-true _ _ e = false_is_not_true e

pub Decides-same_tree : (A B : TypeTree) → Decides (same_tree A B) (A ≡ B)
Decides-same_tree A B = (same_tree-true A B, λ e. subst (λ t. same_tree A t ≡ true) e (same_tree-refl A))

Decides-leb : (a b : ℕ) → Decides (leb a b) (a ≤ b)
Decides-leb a b = (leb-true a b, le-leb a b)

pub Decides-type_fits : (t : TypeTree) → Decides (type_fits t) (TypeFits t)
Decides-type_fits t = Decides-like (type_fits t) (λ h. record { shallow = h.0; small = h.1 }) (λ h. (h.shallow, h.small))
    (Decides-and _ _ (Decides-leb (depth_of t) 32) (Decides-leb (nodes_of t) 256))

Decides-expression_fits : (e : Expression) → Decides (expression_fits e) (ExpressionFits e)
Decides-expression_fits e = Decides-like (expression_fits e) (λ h. record { shallow = h.0; small = h.1 }) (λ h. (h.shallow, h.small))
    (Decides-and _ _ (Decides-leb (height_of e) 256) (Decides-leb (nodes_in e) 100000))

Decides-number : (n : ℤ) → Decides (int_eq (int_wrap w64 n) n) (FitsSigned w64 n)
Decides-number n = Decides-like (int_eq (int_wrap w64 n) n) (λ e. subst (FitsSigned w64) e (SFits-int_wrap w64 n)) (int_wrap_fits w64 n)
    (Decides-int_eq (int_wrap w64 n) n)

-- what each step answers where its test holds
step-is : (r : TypeAnswer) (k : TypeTree → TypeAnswer) (t : TypeTree) {b : TypeAnswer} → r ≡ Ok t → k t ≡ b → r >>= k ≡ b
step-is r k t e q = ap (λ v. v >>= k) e ∙ q

tested-is : (t : Bool) (f : ExprFault) (r : TypeAnswer) {b : TypeAnswer} → t ≡ true → r ≡ b → check_that t f r ≡ b
tested-is t f r e q = ap (λ v. check_that v f r) e ∙ q

limited-is : (t : TypeTree) → TypeFits t → within_limits t ≡ Ok t
limited-is t h = tested-is (type_fits t) TooDeep (Ok t) ((Decides-type_fits t).1 h) refl

wanted-is : (r : TypeAnswer) (t : TypeTree) → r ≡ Ok t → expect r t ≡ Ok t
wanted-is r t e = step-is r (λ s. check_that (same_tree s t) Mismatch (Ok s)) t e (tested-is (same_tree t t) Mismatch (Ok t) (same_tree-refl t) refl)

of_type-is : (r : TypeAnswer) (t : TypeTree) (k : TypeAnswer) {b : TypeAnswer} → r ≡ Ok t → k ≡ b → expect_then r t k ≡ b
of_type-is r t k e q = step-is (expect r t) (λ s. k) t (wanted-is r t e) q

type_of_param-is : {Ps : List TypeTree} {k : ℕ} {B : TypeTree} → ParamAt Ps k B → type_of_param Ps k ≡ Ok B
type_of_param-is param_here = refl
type_of_param-is (param_after i) = type_of_param-is i

mutual
  pub walk-complete : {e : Expression} {Ps : List TypeTree} {A B : TypeTree} (h : ExpressionTyped e Ps A B) → Within h → type_walk Ps A e ≡ Ok B
  walk-complete {B = B} input_typed w = limited-is B w
  walk-complete {B = B} (param_typed i) w = step-is _ _ B (type_of_param-is i) (limited-is B w)
  walk-complete {B = B} unit_typed w = limited-is B w
  walk-complete {B = B} bool_typed w = limited-is B w
  walk-complete {B = B} (int_typed {n = n} f) w = tested-is _ Mismatch _ ((Decides-number n).1 f) (limited-is B w)
  walk-complete {B = B} (pair_typed {B = C} {C = D} h k) w = step-is _ _ C (walk-complete h w.0) (step-is _ _ D (walk-complete k w.1) (limited-is B w.2))
  walk-complete {B = B} (fst_typed h) w = step-is _ _ _ (walk-complete h w.0) (limited-is B w.1)
  walk-complete {B = B} (snd_typed h) w = step-is _ _ _ (walk-complete h w.0) (limited-is B w.1)
  walk-complete {B = B} (then_typed h k) w = step-is _ _ _ (walk-complete h w.0) (step-is _ _ _ (walk-complete k w.1) (limited-is B w.2))
  walk-complete {B = B} (neg_typed h) w = of_type-is _ _ _ (walk-complete h w.0) (limited-is B w.1)
  walk-complete {B = B} (add_typed h k) w = of_type-is _ _ _ (walk-complete h w.0) (of_type-is _ _ _ (walk-complete k w.1) (limited-is B w.2))
  walk-complete {B = B} (sub_typed h k) w = of_type-is _ _ _ (walk-complete h w.0) (of_type-is _ _ _ (walk-complete k w.1) (limited-is B w.2))
  walk-complete {B = B} (mul_typed h k) w = of_type-is _ _ _ (walk-complete h w.0) (of_type-is _ _ _ (walk-complete k w.1) (limited-is B w.2))
  walk-complete {B = B} (less_typed h k) w = of_type-is _ _ _ (walk-complete h w.0) (of_type-is _ _ _ (walk-complete k w.1) (limited-is B w.2))
  walk-complete {B = B} (equal_typed h k) w = step-is _ _ _ (walk-complete h w.0) (of_type-is _ _ _ (walk-complete k w.1) (limited-is B w.2))
  walk-complete {B = B} (not_typed h) w = of_type-is _ _ _ (walk-complete h w.0) (limited-is B w.1)
  walk-complete {B = B} (and_typed h k) w = of_type-is _ _ _ (walk-complete h w.0) (of_type-is _ _ _ (walk-complete k w.1) (limited-is B w.2))
  walk-complete {B = B} (or_typed h k) w = of_type-is _ _ _ (walk-complete h w.0) (of_type-is _ _ _ (walk-complete k w.1) (limited-is B w.2))
  walk-complete {B = B} (if_typed h k l) w = of_type-is _ _ _ (walk-complete h w.0)
      (step-is _ _ _ (walk-complete k w.1) (of_type-is _ _ _ (walk-complete l w.2) (limited-is B w.3)))
  walk-complete {B = B} (no_event_typed {T = T}) w = step-is _ _ T (limited-is T w.0) (limited-is B w.1)
  walk-complete {B = B} (event_typed h) w = step-is _ _ _ (walk-complete h w.0) (limited-is B w.1)
  walk-complete {B = B} (on_typed {A = A} {V = V} h k l) w =
      step-is _ _ _ (walk-complete h w.0)
      (step-is _ _ _ (walk-complete k w.1)
      (step-is _ _ (pair_ty A V) (limited-is (pair_ty A V) w.2) (of_type-is _ _ _ (walk-complete l w.3) (limited-is B w.4))))
  walk-complete (list_typed {T = T} hs) w = step-is _ _ T (limited-is T w.0) (elements-complete hs w.1 w.2)
  walk-complete {B = B} (nth_typed h k l) w = step-is _ _ _ (walk-complete h w.0)
      (of_type-is _ _ _ (walk-complete k w.1) (of_type-is _ _ _ (walk-complete l w.2) (limited-is B w.3)))
  walk-complete {B = B} (len_typed h) w = step-is _ _ _ (walk-complete h w.0) (limited-is B w.1)

  elements-complete : {es : Expressions} {Ps : List TypeTree} {A T : TypeTree} (hs : ExpressionsTyped es Ps A T) → AllWithin hs → TypeFits (list_ty T)
      → elements_walk Ps A T es ≡ Ok (list_ty T)
  elements-complete {T = T} no_more_typed w f = limited-is (list_ty T) f
  elements-complete {T = T} (and_then_typed h hs) w f = of_type-is _ _ _ (walk-complete h w.0) (elements-complete hs w.1 f)

-- what a step that answered a type shows
record Passed (r : TypeAnswer) (k : TypeTree → TypeAnswer) (b : TypeAnswer) : Type 0 where
  type : TypeTree
  before : r ≡ Ok type
  rest : k type ≡ b

step-passed : (r : TypeAnswer) (k : TypeTree → TypeAnswer) (B : TypeTree) → r >>= k ≡ Ok B → Passed r k (Ok B)
step-passed (Ok t) k B e = record { type = t; before = refl; rest = e }
step-passed (Err f) k B e = absurd (cc)

tested-passed : (t : Bool) (f : ExprFault) (r : TypeAnswer) (B : TypeTree) → check_that t f r ≡ Ok B → (t ≡ true) × (r ≡ Ok B)
tested-passed true f r B e = (refl, e)
tested-passed false f r B e = absurd (cc)

type_or : TypeTree → TypeAnswer → TypeTree
type_or d (Ok t) = t
type_or d (Err f) = d

limited-passed : (t B : TypeTree) → within_limits t ≡ Ok B → TypeFits t × (t ≡ B)
unfolding type_or
limited-passed t B e = let h = tested-passed (type_fits t) TooDeep (Ok t) B e in ((Decides-type_fits t).0 h.0, ap (type_or t) h.1)

of_type-passed : (r : TypeAnswer) (t : TypeTree) (k : TypeAnswer) (B : TypeTree) → expect_then r t k ≡ Ok B → (r ≡ Ok t) × (k ≡ Ok B)
of_type-passed r t k B e =
    let g = step-passed (expect r t) (λ s. k) B e in
    let h = step-passed r (λ s. check_that (same_tree s t) Mismatch (Ok s)) g.type g.before in
    let q = tested-passed (same_tree h.type t) Mismatch (Ok h.type) g.type h.rest in
    (h.before ∙ ap Ok (same_tree-true h.type t q.0), g.rest)

first_of-passed : (t B : TypeTree) → first_type t ≡ Ok B → (D : TypeTree) × (t ≡ pair_ty B D)
unfolding type_or
first_of-passed (pair_ty C D) B e = (D, ap (λ X. pair_ty X D) (ap (type_or C) e))
first_of-passed _ B e = absurd (cc)

second_of-passed : (t B : TypeTree) → second_type t ≡ Ok B → (C : TypeTree) × (t ≡ pair_ty C B)
unfolding type_or
second_of-passed (pair_ty C D) B e = (C, ap (λ X. pair_ty C X) (ap (type_or D) e))
second_of-passed _ B e = absurd (cc)

carried_of-passed : (t B : TypeTree) → carried_type t ≡ Ok B → t ≡ event_ty B
unfolding type_or
carried_of-passed (event_ty C) B e = ap event_ty (ap (type_or C) e)
carried_of-passed _ B e = absurd (cc)

element_of-passed : (t B : TypeTree) → element_type t ≡ Ok B → t ≡ list_ty B
unfolding type_or
element_of-passed (list_ty C) B e = ap list_ty (ap (type_or C) e)
element_of-passed _ B e = absurd (cc)

-- elements that are typed within the limits, and their list
record AllChecked (es : Expressions) (Ps : List TypeTree) (A T B : TypeTree) : Type 0 where
  pub given : ExpressionsTyped es Ps A T
  pub fits : AllWithin given
  pub whole_fits : TypeFits (list_ty T)
  pub whole_is : list_ty T ≡ B

type_of_param-passed : (Ps : List TypeTree) (k : ℕ) (B : TypeTree) → type_of_param Ps k ≡ Ok B → ParamAt Ps k B
unfolding type_or
type_of_param-passed [] k B e = absurd (cc)
type_of_param-passed (P ∷ Ps) zero B e = subst (ParamAt (P ∷ Ps) zero) (ap (type_or P) e) param_here
type_of_param-passed (P ∷ Ps) (suc k) B e = param_after (type_of_param-passed Ps k B e)

-- a type that a node has, under the type that was answered
as_answered : (e : Expression) (Ps : List TypeTree) (A t B : TypeTree) → t ≡ B → TypedWithin e Ps A t → TypedWithin e Ps A B
as_answered e Ps A t B q h = subst (TypedWithin e Ps A) q h

-- a form of one part that is wanted to be T, and that is U
one-sound : {e a : Expression} {Ps : List TypeTree} {A B : TypeTree} (T U : TypeTree) →
    (typed : ExpressionTyped a Ps A T → ExpressionTyped e Ps A U) →
    ((h : ExpressionTyped a Ps A T) → Within h → TypeFits U → Within (typed h)) →
    (type_walk Ps A a ≡ Ok T → TypedWithin a Ps A T) → expect_then (type_walk Ps A a) T (within_limits U) ≡ Ok B → TypedWithin e Ps A B
one-sound {e = e} {Ps = Ps} {A = A} {B = B} T U typed fits sound q =
    let p = of_type-passed _ T _ B q in
    let l = limited-passed U B p.1 in
    let h = sound p.0 in
    as_answered e Ps A U B l.1 (record { given = typed h.given; fits = fits h.given h.fits l.0 })

-- a form of two such parts
two-sound : {e a b : Expression} {Ps : List TypeTree} {A B : TypeTree} (T U : TypeTree) →
    (typed : ExpressionTyped a Ps A T → ExpressionTyped b Ps A T → ExpressionTyped e Ps A U) →
    ((h : ExpressionTyped a Ps A T) (k : ExpressionTyped b Ps A T) → Within h → Within k → TypeFits U → Within (typed h k)) →
    (type_walk Ps A a ≡ Ok T → TypedWithin a Ps A T) → (type_walk Ps A b ≡ Ok T → TypedWithin b Ps A T) →
    expect_then (type_walk Ps A a) T (expect_then (type_walk Ps A b) T (within_limits U)) ≡ Ok B → TypedWithin e Ps A B
two-sound T U typed fits sound sound' q =
    let p = of_type-passed _ T _ _ q in
    let h = sound p.0 in
    one-sound T U (λ k. typed h.given k) (λ k w l. fits h.given k h.fits w l) sound' p.1

mutual
  pub walk-sound : (e : Expression) (Ps : List TypeTree) (A B : TypeTree) → type_walk Ps A e ≡ Ok B → TypedWithin e Ps A B
  walk-sound input Ps A B q = let l = limited-passed A B q in as_answered input Ps A A B l.1 (record { given = input_typed; fits = l.0 })
  walk-sound (param k) Ps A B q =
      let p = step-passed (type_of_param Ps k) within_limits B q in
      let l = limited-passed p.type B p.rest in
      as_answered (param k) Ps A p.type B l.1 (record { given = param_typed (type_of_param-passed Ps k p.type p.before); fits = l.0 })
  walk-sound unit_expr Ps A B q = let l = limited-passed unit_ty B q in as_answered unit_expr Ps A unit_ty B l.1 (record { given = unit_typed; fits = l.0 })
  walk-sound (bool_expr b) Ps A B q = let l = limited-passed bool_ty B q in
      as_answered (bool_expr b) Ps A bool_ty B l.1 (record { given = bool_typed; fits = l.0 })
  walk-sound (int_expr n) Ps A B q =
      let p = tested-passed (int_eq (int_wrap w64 n) n) Mismatch (within_limits int_ty) B q in
      let l = limited-passed int_ty B p.1 in
      as_answered (int_expr n) Ps A int_ty B l.1 (record { given = int_typed ((Decides-number n).0 p.0); fits = l.0 })
  walk-sound (pair_expr a b) Ps A B q =
      let p = step-passed _ _ B q in
      let p' = step-passed _ _ B p.rest in
      let l = limited-passed (pair_ty p.type p'.type) B p'.rest in
      let h = walk-sound a Ps A p.type p.before in
      let k = walk-sound b Ps A p'.type p'.before in
      as_answered (pair_expr a b) Ps A (pair_ty p.type p'.type) B l.1 (record { given = pair_typed h.given k.given; fits = (h.fits, k.fits, l.0) })
  walk-sound (fst e) Ps A B q =
      let p = step-passed _ _ B q in
      let s = step-passed (first_type p.type) within_limits B p.rest in
      let f = first_of-passed p.type s.type s.before in
      let l = limited-passed s.type B s.rest in
      let h = walk-sound e Ps A (pair_ty s.type f.0) (p.before ∙ ap Ok f.1) in
      as_answered (fst e) Ps A s.type B l.1 (record { given = fst_typed h.given; fits = (h.fits, l.0) })
  walk-sound (snd e) Ps A B q =
      let p = step-passed _ _ B q in
      let s = step-passed (second_type p.type) within_limits B p.rest in
      let f = second_of-passed p.type s.type s.before in
      let l = limited-passed s.type B s.rest in
      let h = walk-sound e Ps A (pair_ty f.0 s.type) (p.before ∙ ap Ok f.1) in
      as_answered (snd e) Ps A s.type B l.1 (record { given = snd_typed h.given; fits = (h.fits, l.0) })
  walk-sound (then_expr f g) Ps A B q =
      let p = step-passed _ _ B q in
      let p' = step-passed _ _ B p.rest in
      let l = limited-passed p'.type B p'.rest in
      let h = walk-sound f Ps A p.type p.before in
      let k = walk-sound g Ps p.type p'.type p'.before in
      as_answered (then_expr f g) Ps A p'.type B l.1 (record { given = then_typed h.given k.given; fits = (h.fits, k.fits, l.0) })
  walk-sound (neg a) Ps A B q = one-sound int_ty int_ty (λ h. neg_typed h) (λ h w l. (w, l)) (walk-sound a Ps A int_ty) q
  walk-sound (not_expr a) Ps A B q = one-sound bool_ty bool_ty (λ h. not_typed h) (λ h w l. (w, l)) (walk-sound a Ps A bool_ty) q
  walk-sound (add a b) Ps A B q = two-sound int_ty int_ty (λ h k. add_typed h k) (λ h k v w l. (v, w, l)) (walk-sound a Ps A int_ty) (walk-sound b Ps A int_ty)
      q
  walk-sound (sub a b) Ps A B q = two-sound int_ty int_ty (λ h k. sub_typed h k) (λ h k v w l. (v, w, l)) (walk-sound a Ps A int_ty) (walk-sound b Ps A int_ty)
      q
  walk-sound (mul a b) Ps A B q = two-sound int_ty int_ty (λ h k. mul_typed h k) (λ h k v w l. (v, w, l)) (walk-sound a Ps A int_ty) (walk-sound b Ps A int_ty)
      q
  walk-sound (less a b) Ps A B q = two-sound int_ty bool_ty (λ h k. less_typed h k) (λ h k v w l. (v, w, l)) (walk-sound a Ps A int_ty)
      (walk-sound b Ps A int_ty) q
  walk-sound (and_expr a b) Ps A B q = two-sound bool_ty bool_ty (λ h k. and_typed h k) (λ h k v w l. (v, w, l)) (walk-sound a Ps A bool_ty)
      (walk-sound b Ps A bool_ty) q
  walk-sound (or_expr a b) Ps A B q = two-sound bool_ty bool_ty (λ h k. or_typed h k) (λ h k v w l. (v, w, l)) (walk-sound a Ps A bool_ty)
      (walk-sound b Ps A bool_ty) q
  walk-sound (equal a b) Ps A B q =
      let p = step-passed _ _ B q in
      let p' = of_type-passed _ p.type _ B p.rest in
      let l = limited-passed bool_ty B p'.1 in
      let h = walk-sound a Ps A p.type p.before in
      let k = walk-sound b Ps A p.type p'.0 in
      as_answered (equal a b) Ps A bool_ty B l.1 (record { given = equal_typed h.given k.given; fits = (h.fits, k.fits, l.0) })
  walk-sound (if_expr c a b) Ps A B q =
      let p = of_type-passed _ bool_ty _ B q in
      let p' = step-passed _ _ B p.1 in
      let p'' = of_type-passed _ p'.type _ B p'.rest in
      let l = limited-passed p'.type B p''.1 in
      let h = walk-sound c Ps A bool_ty p.0 in
      let k = walk-sound a Ps A p'.type p'.before in
      let k' = walk-sound b Ps A p'.type p''.0 in
      as_answered (if_expr c a b) Ps A p'.type B l.1 (record { given = if_typed h.given k.given k'.given; fits = (h.fits, k.fits, k'.fits, l.0) })
  walk-sound (no_event_expr t) Ps A B q =
      let p = step-passed (within_limits t) _ B q in
      let i = limited-passed t p.type p.before in
      let l = limited-passed (event_ty t) B (subst (λ T. within_limits (event_ty T) ≡ Ok B) (sym i.1) p.rest) in
      as_answered (no_event_expr t) Ps A (event_ty t) B l.1 (record { given = no_event_typed; fits = (i.0, l.0) })
  walk-sound (event_expr e) Ps A B q =
      let p = step-passed _ _ B q in
      let l = limited-passed (event_ty p.type) B p.rest in
      let h = walk-sound e Ps A p.type p.before in
      as_answered (event_expr e) Ps A (event_ty p.type) B l.1 (record { given = event_typed h.given; fits = (h.fits, l.0) })
  walk-sound (on e d b) Ps A B q =
      let p = step-passed _ _ B q in
      let s = step-passed (carried_type p.type) _ B p.rest in
      let p' = step-passed _ _ B s.rest in
      let m = step-passed (within_limits (pair_ty A s.type)) _ B p'.rest in
      let i = limited-passed (pair_ty A s.type) m.type m.before in
      let p'' = of_type-passed _ p'.type _ B m.rest in
      let l = limited-passed p'.type B p''.1 in
      let h = walk-sound e Ps A (event_ty s.type) (p.before ∙ ap Ok (carried_of-passed p.type s.type s.before)) in
      let k = walk-sound d Ps A p'.type p'.before in
      let k' = walk-sound b Ps (pair_ty A s.type) p'.type (subst (λ I. type_walk Ps I b ≡ Ok p'.type) (sym i.1) p''.0) in
      as_answered (on e d b) Ps A p'.type B l.1 (record { given = on_typed h.given k.given k'.given; fits = (h.fits, k.fits, i.0, k'.fits, l.0) })
  walk-sound (list_expr t es) Ps A B q =
      let p = step-passed (within_limits t) _ B q in
      let i = limited-passed t p.type p.before in
      let h = elements-sound es Ps A t B (subst (λ T. elements_walk Ps A T es ≡ Ok B) (sym i.1) p.rest) in
      as_answered (list_expr t es) Ps A (list_ty t) B h.whole_is (record { given = list_typed h.given; fits = (i.0, h.fits, h.whole_fits) })
  walk-sound (nth e i d) Ps A B q =
      let p = step-passed _ _ B q in
      let s = step-passed (element_type p.type) _ B p.rest in
      let p' = of_type-passed _ int_ty _ B s.rest in
      let p'' = of_type-passed _ s.type _ B p'.1 in
      let l = limited-passed s.type B p''.1 in
      let h = walk-sound e Ps A (list_ty s.type) (p.before ∙ ap Ok (element_of-passed p.type s.type s.before)) in
      let k = walk-sound i Ps A int_ty p'.0 in
      let k' = walk-sound d Ps A s.type p''.0 in
      as_answered (nth e i d) Ps A s.type B l.1 (record { given = nth_typed h.given k.given k'.given; fits = (h.fits, k.fits, k'.fits, l.0) })
  walk-sound (len e) Ps A B q =
      let p = step-passed _ _ B q in
      let s = step-passed (element_type p.type) _ B p.rest in
      let l = limited-passed int_ty B s.rest in
      let h = walk-sound e Ps A (list_ty s.type) (p.before ∙ ap Ok (element_of-passed p.type s.type s.before)) in
      as_answered (len e) Ps A int_ty B l.1 (record { given = len_typed h.given; fits = (h.fits, l.0) })

  elements-sound : (es : Expressions) (Ps : List TypeTree) (A T B : TypeTree) → elements_walk Ps A T es ≡ Ok B → AllChecked es Ps A T B
  elements-sound no_more Ps A T B q = let l = limited-passed (list_ty T) B q in record { given = no_more_typed; fits = tt; whole_fits = l.0; whole_is = l.1 }
  elements-sound (and_then e es) Ps A T B q =
      let p = of_type-passed _ T _ B q in
      let h = walk-sound e Ps A T p.0 in
      let hs = elements-sound es Ps A T B p.1 in
      record { given = and_then_typed h.given hs.given; fits = (h.fits, hs.fits); whole_fits = hs.whole_fits; whole_is = hs.whole_is }

pub type_answer-exact : (Ps : List TypeTree) (A : TypeTree) (e : Expression) (B : TypeTree) → (type_answer Ps A e ≡ Ok B) ↔ ExpressionTypedWithin e Ps A B
type_answer-exact Ps A e B = (
  λ q. let p = tested-passed _ TooDeep (type_walk Ps A e) B q in record { whole_fits = (Decides-expression_fits e).0 p.0; checked = walk-sound e Ps A B p.1 },
  λ h. tested-is _ TooDeep (type_walk Ps A e) ((Decides-expression_fits e).1 h.whole_fits) (walk-complete h.checked.given h.checked.fits),
)

-- a test that is true exactly where two types are equal answers as `same_tree` does
pub as_same_tree : (b : Bool) (A B : TypeTree) → IsTrue b ↔ (A ≡ B) → b ≡ same_tree A B
as_same_tree b A B h = same_from_decides b (same_tree A B) h (Decides-same_tree A B)
