-- Parts of expressions by their numbers, in the code's expressions.
use Rattle.std.proofs.Common.{◌≡◌, ℕ, zero, suc, ◌≤◌, ◌<◌, List, [], ◌∷◌, length, map, get_or, Option, Some, None, refl, ap, sym, ◌∙◌, arith, set, slice_get, subst}
use Rattle.std.specs.Option.{option_map, IfSome, MatchOption}
use Rattle.std.proofs.lemmas.Option.{slice_get-get_or, slice_get_past}
use Rattle.std.specs.List.{HoldsAt}
use denote.Bor.{Bor}
use Rattle.std.proofs.lemmas.List.{length-map}
use Rattle.leaf_core.specs.Expression.{Expression, expressions_of, and_then}
use Rattle.leaf_core.specs.ExpressionView.{expression_of}
use Rattle.leaf_core.specs.Parts.{element, with_element, part_inside, part}
use Rattle.leaf_core.specs.Inside.{many, inside_of}
use Rattle.sample_core.specs.TypeTree.{TypeTree}
use Rattle.leaf_core.specs.declared.expr.Expr.{Expr}

-- an element stands where it does in the list
element_is : (es : List Expr) (k : ℕ) → element (expressions_of (map expression_of es)) k ≡ option_map expression_of (slice_get es k)
element_is [] k = refl
element_is (e ∷ es) zero = refl
element_is (e ∷ es) (suc k) = element_is es k

place_found : (all : List Expr) (k : ℕ) (r : Option (Bor Expr)) → IfSome r (λ x. x.now ≡ get_or all k x.now) → MatchOption r (length all ≤ k) (λ x. (k < length all) × HoldsAt (λ y. x.now ≡ y) all k)
    → option_map (λ e. expression_of e.now) r ≡ element (expressions_of (map expression_of all)) k
place_found all k None found within = sym (element_is all k ∙ ap (option_map expression_of) (slice_get_past all k within))
place_found all k (Some x) found within =
    ap (λ e. Some (expression_of e)) found ∙ sym (element_is all k ∙ ap (option_map expression_of) (slice_get-get_or all k x.now within.0))

-- what a place of the elements of a list expression holds
pub element_found : (e : Expression) (t : TypeTree) (all : List Expr) (es : List Expression) (k : ℕ) (r : Option (Bor Expr)) → many t (expressions_of es) ≡ inside_of e
    → map expression_of all ≡ es → IfSome r (λ x. x.now ≡ get_or all k x.now) → MatchOption r (length all ≤ k) (λ x. (k < length all) × HoldsAt (λ y. x.now ≡ y) all k)
    → option_map (λ e. expression_of e.now) r ≡ part e k
element_found e t all es k r q p found within =
    place_found all k r found within ∙ (ap (λ z. element (expressions_of z) k) p ∙ ap (λ i. part_inside i k) q)

no_element : (es : List Expression) (k : ℕ) (s : Expression) → length es ≤ k → with_element (expressions_of es) k s ≡ None
no_element [] k s h = refl
no_element (e ∷ es) zero s h = absurd (omega arith)
no_element (e ∷ es) (suc k) s h = ap (option_map (and_then e)) (no_element es k s (omega arith))

element_set : (es : List Expr) (k : ℕ) (s : Expr) → k < length es
    → with_element (expressions_of (map expression_of es)) k (expression_of s) ≡ Some (expressions_of (map expression_of (set es k s)))
element_set [] k s h = absurd (omega arith)
element_set (e ∷ es) zero s h = refl
element_set (e ∷ es) (suc k) s h = ap (option_map (and_then (expression_of e))) (element_set es k s (omega arith))

-- the same of elements that are given as trees
pub no_element_there : (all : List Expr) (es : List Expression) (k : ℕ) (s : Expression) → map expression_of all ≡ es → length all ≤ k
    → with_element (expressions_of es) k s ≡ None
no_element_there all es k s p h = no_element es k s (omega (arith, ap length p, length-map {A = Expr} {B = Expression}))

pub element_put : (all changed : List Expr) (es : List Expression) (k : ℕ) (s : Expr) → map expression_of all ≡ es → k < length all → changed ≡ set all k s
    → with_element (expressions_of es) k (expression_of s) ≡ Some (expressions_of (map expression_of changed))
element_put all changed es k s p h q =
    subst (λ t. with_element (expressions_of t) k (expression_of s) ≡ Some (expressions_of (map expression_of changed))) p
    (element_set all k s h ∙ ap (λ t. Some (expressions_of (map expression_of t))) (sym q))
