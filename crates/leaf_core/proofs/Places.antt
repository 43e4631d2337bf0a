-- What stands at a place of a list, and how many there are.
use Rattle.std.proofs.Common.{◌≡◌, ℕ, zero, suc, ◌<◌, ◌≤◌, ℤ, pos, List, [], ◌∷◌, length, get_or, Ok, Err, map, refl, ap, subst, sym, ◌∙◌, arith}
use Rattle.std.specs.Option.{ok_or, option_map}
use Rattle.std.proofs.lemmas.List.{get_or-map, get_or_past, length-map}
use Rattle.std.proofs.lemmas.Option.{slice_get-map, slice_get-get_or, slice_get_past}
use Rattle.sample_core.specs.Datum.{Datum, list, list_of}
use Rattle.sample_core.specs.ValueView.{datum_of}
use Rattle.sample_core.specs.declared.sample.Sample.{Sample}
use Rattle.leaf_core.specs.Expression.{Expression, Expressions, no_more, and_then, expressions_of, nodes_in, nodes_in_all}
use Rattle.leaf_core.specs.ExpressionView.{expression_of}
use Rattle.leaf_core.specs.declared.expr.Expr.{Expr}
use Rattle.sample_core.specs.TypeView.{type_of}
use Rattle.sample_core.specs.declared.ty.Ty.{Ty}
use Rattle.sample_core.proofs.Elements.{elements_of_list}
use Rattle.leaf_core.specs.ExpressionCheck.{type_of_param}
use Rattle.leaf_core.specs.declared.typing.ExprFault.TheVariants.{NoParam}
use Rattle.leaf_core.specs.ExpressionValue.{nth_of, element_at}

-- a place behind a list, whose elements are seen by f
pub past : {X Y : Type 0} (f : X → Y) (xs : List X) (k : ℕ) (d : Y) → length xs ≤ k → get_or (map f xs) k d ≡ d
past f xs k d h = get_or_past (map f xs) k d (rw length-map h)

pub type_found : (Ps : List Ty) (k : ℕ) (T : Ty) → k < length Ps → type_of_param (map type_of Ps) k ≡ Ok (type_of (get_or Ps k T))
type_found Ps k T h = ap (λ o. ok_or o NoParam) (slice_get-map type_of Ps k ∙ ap (option_map type_of) (slice_get-get_or Ps k T h))

pub type_missing : (Ps : List Ty) (k : ℕ) → length Ps ≤ k → type_of_param (map type_of Ps) k ≡ Err NoParam
type_missing Ps k h = ap (λ o. ok_or o NoParam) (slice_get_past (map type_of Ps) k (rw length-map h))

-- a place of the list that a list value has elements by
nth_found : (all : List Sample) (n : ℕ) (d : Datum) (s : Sample) → n < length all → nth_of (list_of (map datum_of all)) n d ≡ datum_of (get_or all n s)
nth_found all n d s h = ap (λ vs. get_or vs n d) (elements_of_list (map datum_of all)) ∙ get_or-map datum_of all n s d h

nth_missing : (all : List Sample) (n : ℕ) (d : Datum) → length all ≤ n → nth_of (list_of (map datum_of all)) n d ≡ d
nth_missing all n d h = ap (λ vs. get_or vs n d) (elements_of_list (map datum_of all)) ∙ past datum_of all n d h

pub element_found : (all : List Sample) (at : ℤ) (n : ℕ) (d : Datum) (s : Sample) → at ≡ pos n → n < length all
    → element_at (list (list_of (map datum_of all))) at d ≡ datum_of (get_or all n s)
element_found all at n d s e h = ap (λ t. element_at (list (list_of (map datum_of all))) t d) e ∙ nth_found all n d s h

pub element_missing : (all : List Sample) (at : ℤ) (n : ℕ) (d : Datum) → at ≡ pos n → length all ≤ n → element_at (list (list_of (map datum_of all))) at d ≡ d
element_missing all at n d e h = ap (λ t. element_at (list (list_of (map datum_of all))) t d) e ∙ nth_missing all n d h

-- an element of a list expression has at most as many nodes as the elements
pub element_falls : (all : List Expr) (i : ℕ) (e : Expr) → i < length all
    → nodes_in (expression_of (get_or all i e)) ≤ nodes_in_all (expressions_of (map expression_of all))
element_falls [] i e h = absurd (omega arith)
element_falls (x ∷ xs) zero e h = omega arith
element_falls (x ∷ xs) (suc i) e h = omega (arith, element_falls xs i e (omega arith))

-- the same, where the elements are given as trees
pub element_smaller : (all : List Expr) (es : List Expression) (i : ℕ) (e : Expr) → i < length all → e ≡ get_or all i e → map expression_of all ≡ es
    → nodes_in (expression_of e) ≤ nodes_in_all (expressions_of es)
element_smaller all es i e h q p =
    subst (λ t. nodes_in (expression_of t) ≤ nodes_in_all (expressions_of es)) (sym q)
    (subst (λ t. nodes_in (expression_of (get_or all i e)) ≤ nodes_in_all (expressions_of t)) p (element_falls all i e h))

abbrev count : Expressions → ℕ
count no_more = 0
count (and_then e es) = suc (count es)

count_of_all : (es : List Expression) → count (expressions_of es) ≡ length es
count_of_all [] = refl
count_of_all (e ∷ es) = ap suc (count_of_all es)

-- equal elements are equally many
pub same_length : (es fs : List Expression) → expressions_of es ≡ expressions_of fs → length es ≡ length fs
same_length es fs e = sym (count_of_all es) ∙ ap count e ∙ count_of_all fs
