-- The parts of an expression by their numbers, from 0, and what stands at a path of such numbers.
use Rattle.std.specs.Prelude.{◌≡◌, ℕ, zero, suc, List, [], ◌∷◌, Option, Some, None, option_map, option_and_then}
use Rattle.sample_core.specs.TypeTree.{TypeTree, pair_ty, event_ty}
use Rattle.leaf_core.specs.Expression.{Expression, Expressions, no_more, and_then, pair_expr, fst, snd, then_expr, neg, add, sub, mul, less, equal, not_expr, and_expr, or_expr, if_expr, event_expr, on, list_expr, nth, len}
use Rattle.leaf_core.specs.ExpressionTyping.{ExpressionTyped}
use Rattle.leaf_core.specs.Inside.{Inside, one, two, three, many, inside_of}

-- element k of a list expression
abbrev pub element : Expressions → ℕ → Option Expression
element no_more k = None
element (and_then e es) zero = Some e
element (and_then e es) (suc k) = element es k

-- the elements with s in place of element k; nothing where there is no such element
abbrev pub with_element : Expressions → ℕ → Expression → Option Expressions
with_element no_more k s = None
with_element (and_then e es) zero s = Some (and_then s es)
with_element (and_then e es) (suc k) s = option_map (and_then e) (with_element es k s)

-- part k of what stands inside an expression
abbrev pub part_inside : Inside → ℕ → Option Expression
part_inside (one a) zero = Some a
part_inside (two a b) zero = Some a
part_inside (two a b) (suc zero) = Some b
part_inside (three a b c) zero = Some a
part_inside (three a b c) (suc zero) = Some b
part_inside (three a b c) (suc (suc zero)) = Some c
part_inside (many t es) k = element es k
part_inside _ k = None

-- what stands inside, with s in place of part k; nothing where there is no such part
abbrev pub inside_with : Inside → ℕ → Expression → Option Inside
inside_with (one a) zero s = Some (one s)
inside_with (two a b) zero s = Some (two s b)
inside_with (two a b) (suc zero) s = Some (two a s)
inside_with (three a b c) zero s = Some (three s b c)
inside_with (three a b c) (suc zero) s = Some (three a s c)
inside_with (three a b c) (suc (suc zero)) s = Some (three a b s)
inside_with (many t es) k s = option_map (many t) (with_element es k s)
inside_with _ k s = None

-- the expression of the form of another that has parts, with this inside
abbrev pub refilled : Expression → Inside → Expression
refilled (pair_expr _ _) (two a b) = pair_expr a b
refilled (fst _) (one a) = fst a
refilled (snd _) (one a) = snd a
refilled (then_expr _ _) (two a b) = then_expr a b
refilled (neg _) (one a) = neg a
refilled (add _ _) (two a b) = add a b
refilled (sub _ _) (two a b) = sub a b
refilled (mul _ _) (two a b) = mul a b
refilled (less _ _) (two a b) = less a b
refilled (equal _ _) (two a b) = equal a b
refilled (not_expr _) (one a) = not_expr a
refilled (and_expr _ _) (two a b) = and_expr a b
refilled (or_expr _ _) (two a b) = or_expr a b
refilled (if_expr _ _ _) (three a b c) = if_expr a b c
refilled (event_expr _) (one a) = event_expr a
refilled (on _ _ _) (three a b c) = on a b c
refilled (list_expr _ _) (many t es) = list_expr t es
refilled (nth _ _ _) (three a b c) = nth a b c
refilled (len _) (one a) = len a
refilled e _ = e

-- part k of an expression, in written order; types and numbers are no parts
abbrev pub part : Expression → ℕ → Option Expression
part e k = part_inside (inside_of e) k

-- the expression with s in place of part k; nothing where there is no such part
abbrev pub with_part : Expression → ℕ → Expression → Option Expression
with_part e k s = option_map (refilled e) (inside_with (inside_of e) k s)

-- what stands at a path of part numbers
abbrev pub part_at : Expression → List ℕ → Option Expression
part_at e [] = Some e
part_at e (k ∷ p) = option_and_then (λ c. part_at c p) (part e k)

-- the expression with s there; nothing where the path leads to no part
abbrev pub with_part_at : Expression → List ℕ → Expression → Option Expression
with_part_at e [] s = Some s
with_part_at e (k ∷ p) s =
    option_and_then (λ c. option_and_then (with_part e k) (with_part_at c p s)) (part e k)

-- part k gets the input of the whole: each does but what stands behind the first of `then`, and
-- what `on` makes of an event
abbrev pub HasInputOfWhole : Expression → ℕ → Type 0
HasInputOfWhole (then_expr f g) (suc k) = ⊥
HasInputOfWhole (on e d b) (suc (suc k)) = ⊥
HasInputOfWhole e k = Unit {0}

-- under parameters of types Ps, where the whole gets an A, part k gets this type
pub data PartInput (Ps : List TypeTree) (A : TypeTree) : Expression → ℕ → TypeTree → Type 0 where
  behind_first : {f g : Expression} {B : TypeTree} → ExpressionTyped f Ps A B
      → PartInput Ps A (then_expr f g) 1 B
  with_event : {e d b : Expression} {V : TypeTree} → ExpressionTyped e Ps A (event_ty V)
      → PartInput Ps A (on e d b) 2 (pair_ty A V)
  as_whole : {e : Expression} {k : ℕ} → HasInputOfWhole e k → PartInput Ps A e k A

-- the same of what stands at a path
pub data InputAt (Ps : List TypeTree) : TypeTree → Expression → List ℕ → TypeTree → Type 0 where
  input_here : {A : TypeTree} {e : Expression} → InputAt Ps A e [] A
  input_inside : {A B C : TypeTree} {e c : Expression} {k : ℕ} {p : List ℕ} → part e k ≡ Some c
      → PartInput Ps A e k B → InputAt Ps B c p C → InputAt Ps A e (k ∷ p) C
