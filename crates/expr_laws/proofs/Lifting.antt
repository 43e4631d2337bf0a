-- An operator at an `if`: what is made of it is a right side, and no other is.
use Rattle.std.proofs.Common.{◌≡◌, ℕ, zero, suc, ◌<◌, ◌≤◌, false, List, [], ◌∷◌, length, map, set, get_or, Option, Some, None, Result, IfOk, option_map, refl, sym, ap, ap₂, subst, ◌∙◌, arith}
use Rattle.leaf_core.specs.Expression.{Expression, Expressions, expressions_of, pair_expr, fst, snd, then_expr, neg, add, sub, mul, less, equal, not_expr, and_expr, or_expr, if_expr, event_expr, on, list_expr, nth, len, no_more, and_then}
use Rattle.leaf_core.specs.ExpressionView.{expression_of}
use Rattle.leaf_core.specs.declared.expr.Expr.{Expr}
use Rattle.leaf_core.specs.declared.expr.Expr.TheVariants as E
use Rattle.leaf_core.specs.declared.literal.Literal.TheVariants as C
use Rattle.leaf_core.specs.Inside.{with_two, with_three}
use Rattle.std.proofs.lemmas.List.{map-set}
use Rattle.sample_core.specs.TypeTree.{TypeTree}
use Rattle.expr_laws.specs.ExpressionLaw.{is_if, two_of, three_of, FirstIf, here, later, Lifted, fst_lifted, snd_lifted, neg_lifted, not_lifted, event_lifted, len_lifted, then_lifted, pair_lifted, add_lifted, sub_lifted, mul_lifted, less_lifted, equal_lifted, and_lifted, or_lifted, on_lifted, if_lifted, nth_lifted, list_lifted, law_e49}
use Rattle.expr_laws.specs.Direct.{lift_one, lift_two, lift_three, lift_all, law49}
use Rattle.expr_laws.proofs.NamedLaws.{IsRight}

one-gives : (form : Expression → Expression) → ((c a b : Expression) → Lifted (form (if_expr c a b)) (if_expr c (form a) (form b))) → (d : Expression) → IsRight 49 (form d) (lift_one form d)
one-gives form g (if_expr c a b) = law_e49 (g c a b)
one-gives form g _ = tt

-- what a form of two parts becomes
abbrev TwoLifted : (Expression → Expression → Expression) → Type 0
TwoLifted form = (c d e l m r s : Expression) → FirstIf c (two_of d e) (two_of l m) (two_of r s) → Lifted (form d e) (if_expr c (form l m) (form r s))

two-gives : (form : Expression → Expression → Expression) → TwoLifted form → (d e : Expression) → IsRight 49 (form d e) (lift_two form d e)
two-gives form g (if_expr c a b) e = law_e49 (g c (if_expr c a b) e a e b e here)
two-gives form g d e = one-gives (form d) (λ c a b. g c d (if_expr c a b) d a d b (later refl here)) e

-- the same of three
abbrev ThreeLifted : (Expression → Expression → Expression → Expression) → Type 0
ThreeLifted form = (c d e f l m n r s t : Expression) → FirstIf c (three_of d e f) (three_of l m n) (three_of r s t) → Lifted (form d e f) (if_expr c (form l m n) (form r s t))

three-gives : (form : Expression → Expression → Expression → Expression) → ThreeLifted form → (d e f : Expression) → IsRight 49 (form d e f) (lift_three form d e f)
three-gives form g (if_expr c a b) e f = law_e49 (g c (if_expr c a b) e f a e f b e f here)
three-gives form g d e f = two-gives (form d) (λ c e f l m r s i. g c d e f d l m d r s (later refl i)) e f

-- the same of elements
abbrev AllLifted : (Expressions → Expression) → Type 0
AllLifted form = (c : Expression) (es ls rs : Expressions) → FirstIf c es ls rs → Lifted (form es) (if_expr c (form ls) (form rs))

all-gives : (form : Expressions → Expression) → AllLifted form → (es : Expressions) → IsRight 49 (form es) (lift_all form es)
all-gives form g no_more = tt
all-gives form g (and_then (if_expr c a b) es) = law_e49 (g c (and_then (if_expr c a b) es) (and_then a es) (and_then b es) here)
all-gives form g (and_then e es) = all-gives (λ fs. form (and_then e fs)) (λ c es ls rs i. g c (and_then e es) (and_then e ls) (and_then e rs) (later refl i)) es

pub law49-gives : (e : Expression) → IsRight 49 e (law49 e)
law49-gives (fst d) = one-gives fst (λ c a b. fst_lifted) d
law49-gives (snd d) = one-gives snd (λ c a b. snd_lifted) d
law49-gives (neg d) = one-gives neg (λ c a b. neg_lifted) d
law49-gives (not_expr d) = one-gives not_expr (λ c a b. not_lifted) d
law49-gives (event_expr d) = one-gives event_expr (λ c a b. event_lifted) d
law49-gives (len d) = one-gives len (λ c a b. len_lifted) d
law49-gives (then_expr f g) = one-gives (λ d. then_expr d g) (λ c a b. then_lifted) f
law49-gives (pair_expr d e) = two-gives pair_expr (λ c d e l m r s i. pair_lifted i) d e
law49-gives (add d e) = two-gives add (λ c d e l m r s i. add_lifted i) d e
law49-gives (sub d e) = two-gives sub (λ c d e l m r s i. sub_lifted i) d e
law49-gives (mul d e) = two-gives mul (λ c d e l m r s i. mul_lifted i) d e
law49-gives (less d e) = two-gives less (λ c d e l m r s i. less_lifted i) d e
law49-gives (equal d e) = two-gives equal (λ c d e l m r s i. equal_lifted i) d e
law49-gives (and_expr d e) = two-gives and_expr (λ c d e l m r s i. and_lifted i) d e
law49-gives (or_expr d e) = two-gives or_expr (λ c d e l m r s i. or_lifted i) d e
law49-gives (on d e b) = two-gives (λ f g. on f g b) (λ c d e l m r s i. on_lifted i) d e
law49-gives (if_expr d e f) = three-gives if_expr (λ c d e f l m n r s t i. if_lifted i) d e f
law49-gives (nth d e f) = three-gives nth (λ c d e f l m n r s t i. nth_lifted i) d e f
law49-gives (list_expr T es) = all-gives (list_expr T) (λ c es ls rs i. list_lifted i) es
law49-gives _ = tt

-- a part that is no `if` is passed
past_two : (form : Expression → Expression → Expression) (d e : Expression) → is_if d ≡ false → lift_two form d e ≡ lift_one (form d) e
past_two form (if_expr c a b) e q = absurd (cc)
past_two form _ e q = refl

past_three : (form : Expression → Expression → Expression → Expression) (d e f : Expression) → is_if d ≡ false → lift_three form d e f ≡ lift_two (form d) e f
past_three form (if_expr c a b) e f q = absurd (cc)
past_three form _ e f q = refl

past_one : (form : Expressions → Expression) (e : Expression) (es : Expressions) → is_if e ≡ false → lift_all form (and_then e es) ≡ lift_all (λ fs. form (and_then e fs)) es
past_one form (if_expr c a b) es q = absurd (cc)
past_one form _ es q = refl

two-is : (form : Expression → Expression → Expression) {c d e l m r s : Expression} → FirstIf c (two_of d e) (two_of l m) (two_of r s)
    → lift_two form d e ≡ Some (if_expr c (form l m) (form r s))
two-is form here = refl
two-is form {c = c} {d = d} (later q (here {a = a} {b = b})) = past_two form d (if_expr c a b) q
two-is form (later q (later p i)) = elim i [ ]

three-is : (form : Expression → Expression → Expression → Expression) {c d e f l m n r s t : Expression} → FirstIf c (three_of d e f) (three_of l m n) (three_of r s t)
    → lift_three form d e f ≡ Some (if_expr c (form l m n) (form r s t))
three-is form here = refl
three-is form {d = d} {e = e} {f = f} (later q i) = past_three form d e f q ∙ two-is (form d) i

all-is : {c : Expression} (form : Expressions → Expression) {es ls rs : Expressions} → FirstIf c es ls rs → lift_all form es ≡ Some (if_expr c (form ls) (form rs))
all-is form here = refl
all-is form (later {e = e} {es = es} q i) = past_one form e es q ∙ all-is (λ fs. form (and_then e fs)) i

pub lifted-is : {o r : Expression} → Lifted o r → law49 o ≡ Some r
lifted-is (pair_lifted i) = two-is pair_expr i
lifted-is (add_lifted i) = two-is add i
lifted-is (sub_lifted i) = two-is sub i
lifted-is (mul_lifted i) = two-is mul i
lifted-is (less_lifted i) = two-is less i
lifted-is (equal_lifted i) = two-is equal i
lifted-is (and_lifted i) = two-is and_expr i
lifted-is (or_lifted i) = two-is or_expr i
lifted-is (on_lifted {g = b} i) = two-is (λ f g. on f g b) i
lifted-is (if_lifted i) = three-is if_expr i
lifted-is (nth_lifted i) = three-is nth i
lifted-is (list_lifted {T = T} i) = all-is (list_expr T) i
lifted-is _ = refl

-- the first n of some expressions are no `if`
abbrev pub NoneIf : ℕ → List Expr → Type 0
NoneIf zero xs = Unit {0}
NoneIf (suc n) [] = Unit {0}
NoneIf (suc n) (x ∷ xs) = (is_if (expression_of x) ≡ false) × NoneIf n xs

pub one-more : (n : ℕ) (xs : List Expr) (s : Expr) → NoneIf n xs → is_if (expression_of (get_or xs n s)) ≡ false → NoneIf (suc n) xs
one-more n [] s h q = tt
one-more zero (x ∷ xs) s h q = (q, tt)
one-more (suc n) (x ∷ xs) s h q = (h.0, one-more n xs s h.1 q)

pub none-lifted : (form : Expressions → Expression) (n : ℕ) (xs : List Expr) → NoneIf n xs → length xs ≤ n → None ≡ lift_all form (expressions_of (map expression_of xs))
none-lifted form n [] h l = refl
none-lifted form zero (x ∷ xs) h l = absurd (omega (arith, l))
none-lifted form (suc n) (x ∷ xs) h l =
    none-lifted (λ fs. form (and_then (expression_of x) fs)) n xs h.1 (omega (arith, l)) ∙ sym (past_one form (expression_of x) (expressions_of (map expression_of xs)) h.0)

-- the first that is an `if` is lifted
all-lifted : (form : Expressions → Expression) (xs : List Expr) (n : ℕ) (c a b : Expression) (s : Expr) → NoneIf n xs → n < length xs → expression_of (get_or xs n s) ≡ if_expr c a b
    → lift_all form (expressions_of (map expression_of xs))
    ≡ Some (if_expr c (form (expressions_of (set (map expression_of xs) n a))) (form (expressions_of (set (map expression_of xs) n b))))
all-lifted form [] n c a b s h l q = absurd (omega (arith, l))
all-lifted form (x ∷ xs) zero c a b s h l q = ap (λ e. lift_all form (and_then e (expressions_of (map expression_of xs)))) q
all-lifted form (x ∷ xs) (suc n) c a b s h l q =
    past_one form (expression_of x) (expressions_of (map expression_of xs)) h.0
    ∙ all-lifted (λ fs. form (and_then (expression_of x) fs)) xs n c a b s h.1 (omega (arith, l)) q

-- what the code answers is that expression, if it is one
abbrev Answers : {X : Type 0} → Result (Option Expr) X → Option Expression → Type 0
Answers x y = IfOk x (λ o. option_map expression_of o ≡ y)

-- the list at its first element that is an `if`
pub list-lifted : {X : Type 0} (x : Result (Option Expr) X) (T : TypeTree) (all : List Expr) (k : ℕ) (s : Expr) (c a b f g : Expression) → NoneIf k all → k < length all
    → s ≡ get_or all k s → s ≡ E.If c a b → f ≡ list_expr T (expressions_of (set (map expression_of all) k a)) → g ≡ list_expr T (expressions_of (set (map expression_of all) k b))
    → IfOk x (λ o. option_map expression_of o ≡ Some (if_expr c f g)) → IfOk x (λ o. option_map expression_of o ≡ lift_all (list_expr T) (expressions_of (map expression_of all)))
list-lifted x T all k s c a b f g h l i q p r d =
    subst (Answers x) (ap₂ (λ v w. Some (if_expr c v w)) p r ∙ sym (all-lifted (list_expr T) all k c a b s h l (ap expression_of (sym i ∙ q)))) d

-- the list with another element
pub list-made : {X : Type 0} (x : Result Expression X) (T U : TypeTree) (all new : List Expr) (es : List Expression) (k : ℕ) (s : Expr) (d : Expression) → U ≡ T → new ≡ set all k s
    → es ≡ map expression_of new → expression_of s ≡ d → IfOk x (λ p. p ≡ list_expr U (expressions_of es)) → IfOk x (λ p. p ≡ list_expr T (expressions_of (set (map expression_of all) k d)))
list-made x T U all new es k s d t r q i h =
    subst (λ y. IfOk x (λ p. p ≡ y))
    (ap₂ (λ v zs. list_expr v (expressions_of zs)) t (q ∙ ap (map expression_of) r ∙ map-set expression_of all k s ∙ ap (set (map expression_of all) k) i)) h

-- what the code finds to be no `if` is none
pub not_if : (s : Expr) → ((c a b : Expression) → s ≡ E.If c a b → ⊥) → is_if (expression_of s) ≡ false
not_if (E.If c a b) n = absurd (n c a b refl)
not_if (E.Literal C.Unit) n = refl
not_if (E.Literal (C.Bool p)) n = refl
not_if (E.Literal (C.Int k)) n = refl
not_if _ n = refl

-- a form of three parts, of which the first is no `if`
pub later-lifted : {X : Type 0} (x : Result (Option Expr) X) (form : Expression → Expression → Expression → Expression) (s : Expr) (d e f : Expression) → expression_of s ≡ d
    → ((c a b : Expression) → s ≡ E.If c a b → ⊥) → IfOk x (λ o. option_map expression_of o ≡ lift_two (form d) e f) → IfOk x (λ o. option_map expression_of o ≡ lift_three form d e f)
later-lifted x form s d e f q n h = subst (Answers x) (sym (past_three form d e f (sym (ap is_if q) ∙ not_if s n))) h

-- a form of two parts, of three, and `on`, as the code has them
pub two-lifted : {X : Type 0} (x : Result (Option Expr) X) (form : Expr) (a b : Expression) → ((f g : Expression) → form ≡ E.Then f g → ⊥) → with_two form a b ≡ form
    → IfOk x (λ o. option_map expression_of o ≡ lift_two (λ m n. expression_of (with_two form m n)) a b) → IfOk x (λ o. option_map expression_of o ≡ law49 (expression_of form))
two-lifted x form a b n w h = subst (λ f. Answers x (law49 (expression_of f))) w (go form n h)
  where
    go : (f : Expr) → ((c d : Expression) → f ≡ E.Then c d → ⊥) → Answers x (lift_two (λ m n. expression_of (with_two f m n)) a b) → Answers x (law49 (expression_of (with_two f a b)))
    go (E.Then c d) n h = absurd (n c d refl)
    go (E.Pair c d) n h = h
    go _ n h = h

pub three-lifted : {X : Type 0} (x : Result (Option Expr) X) (form : Expr) (a b c : Expression) → ((e d g : Expression) → form ≡ E.On e d g → ⊥) → with_three form a b c ≡ form
    → IfOk x (λ o. option_map expression_of o ≡ lift_three (λ l m n. expression_of (with_three form l m n)) a b c) → IfOk x (λ o. option_map expression_of o ≡ law49 (expression_of form))
three-lifted x form a b c n w h = subst (λ f. Answers x (law49 (expression_of f))) w (go form n h)
  where
    go : (f : Expr) → ((e d g : Expression) → f ≡ E.On e d g → ⊥) → Answers x (lift_three (λ l m n. expression_of (with_three f l m n)) a b c)
        → Answers x (law49 (expression_of (with_three f a b c)))
    go (E.On e d g) n h = absurd (n e d g refl)
    go (E.If e d g) n h = h
    go _ n h = h

pub on-lifted : {X : Type 0} (x : Result (Option Expr) X) (form : Expr) (e d b : Expression) → form ≡ E.On e d b
    → IfOk x (λ o. option_map expression_of o ≡ lift_two (λ m n. expression_of (with_three form m n b)) e d) → IfOk x (λ o. option_map expression_of o ≡ law49 (expression_of form))
on-lifted x form e d b q h =
    subst (λ f. Answers x (law49 (expression_of f))) (sym q) (subst (λ f. Answers x (lift_two (λ m n. expression_of (with_three f m n b)) e d)) q h)
