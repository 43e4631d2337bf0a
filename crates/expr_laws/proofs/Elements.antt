-- The elements of list expressions.
use Rattle.std.proofs.Common.{◌≡◌, ℕ, zero, suc, ◌<◌, ◌≤◌, nat_eq, ℤ, pos, List, [], ◌∷◌, map, Some, length, get_or, refl, sym, ap, ap₂, ◌∙◌, arith}
use Rattle.leaf_core.specs.Expression.{Expression, then_expr, list_expr, and_then, expressions_of}
use Rattle.leaf_core.specs.ExpressionView.{expression_of}
use Rattle.leaf_core.specs.declared.expr.Expr.{Expr}
use Rattle.sample_core.specs.TypeTree.{TypeTree}
use Rattle.expr_laws.specs.ExpressionLaw.{each_then, element_or, picked}
use Rattle.expr_laws.specs.Direct.{is_constant, spread, picked_in}

each_then-is : (f : Expression) (es : List Expression) → each_then f (expressions_of es) ≡ expressions_of (map (then_expr f) es)
each_then-is f [] = refl
each_then-is f (e ∷ es) = ap (and_then (then_expr f e)) (each_then-is f es)

spread-listed : (f : Expression) (T : TypeTree) (xs : List Expr) → 0 < length xs
    → spread f (list_expr T (expressions_of (map expression_of xs))) ≡ Some (list_expr T (expressions_of (map (then_expr f) (map expression_of xs))))
spread-listed f T [] h = absurd (omega (arith, h))
spread-listed f T (x ∷ xs) h = ap (λ es. Some (list_expr T (and_then (then_expr f (expression_of x)) es))) (each_then-is f (map expression_of xs))

-- a list with elements, each behind f
pub spread-some : (f : Expression) (T U : TypeTree) (all new : List Expression) (xs : List Expr) → map expression_of xs ≡ all → 0 < length xs
    → new ≡ map (then_expr f) (map expression_of xs) → U ≡ T → Some (list_expr U (expressions_of new)) ≡ spread f (list_expr T (expressions_of all))
spread-some f T U all new xs p h q r =
    ap₂ (λ v es. Some (list_expr v (expressions_of es))) r q ∙ sym (spread-listed f T xs h) ∙ ap (λ es. spread f (list_expr T (expressions_of es))) p

picked_in-listed : (xs : List Expr) (i : ℤ) (d : Expression) → 0 < length xs → picked_in (expressions_of (map expression_of xs)) i d ≡ Some (picked (expressions_of (map expression_of xs)) i d)
picked_in-listed [] i d h = absurd (omega (arith, h))
picked_in-listed (x ∷ xs) i d h = refl

-- an element of a list with elements
pub picked_in-some : (all : List Expression) (xs : List Expr) (i : ℤ) (d r : Expression) → map expression_of xs ≡ all → 0 < length xs
    → r ≡ picked (expressions_of (map expression_of xs)) i d → Some r ≡ picked_in (expressions_of all) i d
picked_in-some all xs i d r p h q = ap Some q ∙ sym (picked_in-listed xs i d h) ∙ ap (λ es. picked_in (expressions_of es) i d) p

element_found : (all : List Expr) (n : ℕ) (d : Expression) (s : Expr) → n < length all → element_or (expressions_of (map expression_of all)) n d ≡ expression_of (get_or all n s)
element_found [] n d s h = absurd (omega (arith, h))
element_found (x ∷ xs) zero d s h = refl
element_found (x ∷ xs) (suc n) d s h = element_found xs n d s (omega (arith, h))

element_missing : (all : List Expr) (n : ℕ) (d : Expression) → length all ≤ n → element_or (expressions_of (map expression_of all)) n d ≡ d
element_missing [] n d h = refl
element_missing (x ∷ xs) zero d h = absurd (omega (arith, h))
element_missing (x ∷ xs) (suc n) d h = element_missing xs n d (omega (arith, h))

-- the element at a place
pub picked-found : (all : List Expr) (i : ℤ) (n : ℕ) (d : Expression) (s : Expr) → i ≡ pos n → n < length all
    → picked (expressions_of (map expression_of all)) i d ≡ expression_of (get_or all n s)
picked-found all i n d s e h = ap (λ t. picked (expressions_of (map expression_of all)) t d) e ∙ element_found all n d s h

-- a place outside
pub picked-missing : (all : List Expr) (i : ℤ) (n : ℕ) (d : Expression) → i ≡ pos n → length all ≤ n → picked (expressions_of (map expression_of all)) i d ≡ d
picked-missing all i n d e h = ap (λ t. picked (expressions_of (map expression_of all)) t d) e ∙ element_missing all n d h

-- the list of no elements is constant, and no other
pub constant-list : (T : TypeTree) (xs : List Expr) → nat_eq (length xs) 0 ≡ is_constant (list_expr T (expressions_of (map expression_of xs)))
constant-list T [] = refl
constant-list T (x ∷ xs) = grind arith
