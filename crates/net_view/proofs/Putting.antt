-- An expression with another in the place of a part: it is there, and how many nodes it has, and how high it is.
use Rattle.std.proofs.Common.{◌≡◌, ℕ, zero, suc, ◌+◌, ◌≤◌, max, true, false, List, [], ◌∷◌, Option, Some, None, IfSome, option_map, refl, ap, ◌∙◌, arith}
use Rattle.std.specs.Prelude.{option_and_then}
use Rattle.std.proofs.lemmas.Option.{none-some}
use Rattle.leaf_core.specs.Expression.{Expression, Expressions, no_more, and_then, bool_expr, pair_expr, fst, snd, then_expr, neg, add, sub, mul, less, equal, not_expr, and_expr, or_expr, if_expr, event_expr, on, list_expr, nth, len, height_of, heights_of, nodes_in, nodes_in_all}
use Rattle.leaf_core.specs.Inside.{many}
use Rattle.leaf_core.specs.Parts.{element, with_element, refilled, part, with_part, part_at, with_part_at}
use Rattle.leaf_core.proofs.PartTypes.{value_is}

-- something is there, of which this holds
abbrev pub Has : {A : Type 0} → Option A → (A → Type 0) → Type 0
Has None P = ⊥
Has (Some a) P = P a

pub what_is_there : {A : Type 0} (P : A → Type 0) (o : Option A) → Has o P → (a : A) × (o ≡ Some a) × P a
what_is_there P None h = absurd h
what_is_there P (Some a) h = (a, refl, h)

-- how high an expression is with c inside, and how many nodes it has; and so with s in its place
pub record Put (c s : Expression) (high many high' many' : ℕ) : Type 0 where
  pub lower : suc (height_of c) ≤ high
  pub fewer : nodes_in c ≤ many
  pub above : suc (height_of s) ≤ high'
  pub below : high' ≤ max high (suc (height_of s))
  pub nodes : many' + nodes_in c ≡ many + nodes_in s

in_one : (a s : Expression) → Put a s (suc (height_of a)) (suc (nodes_in a)) (suc (height_of s)) (suc (nodes_in s))
in_one a s = record { lower = omega arith; fewer = omega arith; above = omega arith; below = omega arith; nodes = omega arith }

first_of_two : (a b s : Expression)
    → Put a s (suc (max (height_of a) (height_of b))) (suc (nodes_in a + nodes_in b)) (suc (max (height_of s) (height_of b))) (suc (nodes_in s + nodes_in b))
first_of_two a b s = record { lower = omega arith; fewer = omega arith; above = omega arith; below = omega arith; nodes = omega arith }

second_of_two : (a b s : Expression)
    → Put b s (suc (max (height_of a) (height_of b))) (suc (nodes_in a + nodes_in b)) (suc (max (height_of a) (height_of s))) (suc (nodes_in a + nodes_in s))
second_of_two a b s = record { lower = omega arith; fewer = omega arith; above = omega arith; below = omega arith; nodes = omega arith }

first_of_three : (a b c s : Expression)
    → Put a s (suc (max (max (height_of a) (height_of b)) (height_of c))) (suc (nodes_in a + nodes_in b + nodes_in c))
    (suc (max (max (height_of s) (height_of b)) (height_of c))) (suc (nodes_in s + nodes_in b + nodes_in c))
first_of_three a b c s = record { lower = omega arith; fewer = omega arith; above = omega arith; below = omega arith; nodes = omega arith }

second_of_three : (a b c s : Expression)
    → Put b s (suc (max (max (height_of a) (height_of b)) (height_of c))) (suc (nodes_in a + nodes_in b + nodes_in c))
    (suc (max (max (height_of a) (height_of s)) (height_of c))) (suc (nodes_in a + nodes_in s + nodes_in c))
second_of_three a b c s = record { lower = omega arith; fewer = omega arith; above = omega arith; below = omega arith; nodes = omega arith }

third_of_three : (a b c s : Expression)
    → Put c s (suc (max (max (height_of a) (height_of b)) (height_of c))) (suc (nodes_in a + nodes_in b + nodes_in c))
    (suc (max (max (height_of a) (height_of b)) (height_of s))) (suc (nodes_in a + nodes_in b + nodes_in s))
third_of_three a b c s = record { lower = omega arith; fewer = omega arith; above = omega arith; below = omega arith; nodes = omega arith }

-- the same of the elements of a list
record PutAmong (c s : Expression) (es vs : Expressions) : Type 0 where
  lower : height_of c ≤ heights_of es
  fewer : nodes_in c ≤ nodes_in_all es
  above : height_of s ≤ heights_of vs
  below : heights_of vs ≤ max (heights_of es) (height_of s)
  nodes : nodes_in_all vs + nodes_in c ≡ nodes_in_all es + nodes_in s

element_put : (es : Expressions) (k : ℕ) (s : Expression) → IfSome (element es k) (λ c. Has (with_element es k s) (PutAmong c s es))
element_put no_more k s = tt
element_put (and_then e es) zero s = record { lower = omega arith; fewer = omega arith; above = omega arith; below = omega arith; nodes = omega arith }
element_put (and_then e es) (suc k) s = go (element es k) (with_element es k s) (element_put es k s)
  where
    go : (o : Option Expression) (w : Option Expressions) → IfSome o (λ c. Has w (PutAmong c s es))
        → IfSome o (λ c. Has (option_map (and_then e) w) (PutAmong c s (and_then e es)))
    go None w h = tt
    go (Some c) None h = h
    go (Some c) (Some vs) h = record {
      lower = omega (arith, h.lower);
      fewer = omega (arith, h.fewer);
      above = omega (arith, h.above);
      below = omega (arith, h.below);
      nodes = omega (arith, h.nodes);
    }

abbrev pub PartPut : Expression → ℕ → Expression → Type 0
PartPut e k s = IfSome (part e k) (λ c. Has (with_part e k s) (λ v. Put c s (height_of e) (nodes_in e) (height_of v) (nodes_in v)))

pub part_put : (e : Expression) (k : ℕ) (s : Expression) → PartPut e k s
part_put (pair_expr a b) zero s = first_of_two a b s
part_put (pair_expr a b) (suc zero) s = second_of_two a b s
part_put (fst a) zero s = in_one a s
part_put (snd a) zero s = in_one a s
part_put (then_expr a b) zero s = first_of_two a b s
part_put (then_expr a b) (suc zero) s = second_of_two a b s
part_put (neg a) zero s = in_one a s
part_put (add a b) zero s = first_of_two a b s
part_put (add a b) (suc zero) s = second_of_two a b s
part_put (sub a b) zero s = first_of_two a b s
part_put (sub a b) (suc zero) s = second_of_two a b s
part_put (mul a b) zero s = first_of_two a b s
part_put (mul a b) (suc zero) s = second_of_two a b s
part_put (less a b) zero s = first_of_two a b s
part_put (less a b) (suc zero) s = second_of_two a b s
part_put (equal a b) zero s = first_of_two a b s
part_put (equal a b) (suc zero) s = second_of_two a b s
part_put (not_expr a) zero s = in_one a s
part_put (and_expr a b) zero s = first_of_two a b s
part_put (and_expr a b) (suc zero) s = second_of_two a b s
part_put (or_expr a b) zero s = first_of_two a b s
part_put (or_expr a b) (suc zero) s = second_of_two a b s
part_put (if_expr a b c) zero s = first_of_three a b c s
part_put (if_expr a b c) (suc zero) s = second_of_three a b c s
part_put (if_expr a b c) (suc (suc zero)) s = third_of_three a b c s
part_put (event_expr a) zero s = in_one a s
part_put (on a b c) zero s = first_of_three a b c s
part_put (on a b c) (suc zero) s = second_of_three a b c s
part_put (on a b c) (suc (suc zero)) s = third_of_three a b c s
part_put (list_expr t es) k s = go (element es k) (with_element es k s) (element_put es k s)
  where
    go : (o : Option Expression) (w : Option Expressions) → IfSome o (λ c. Has w (PutAmong c s es))
        → IfSome o
        (λ c. Has (option_map (refilled (list_expr t es)) (option_map (many t) w))
        (λ v. Put c s (height_of (list_expr t es)) (nodes_in (list_expr t es)) (height_of v) (nodes_in v)))
    go None w h = tt
    go (Some c) None h = h
    go (Some c) (Some vs) h = record {
      lower = omega (arith, h.lower);
      fewer = omega (arith, h.fewer);
      above = omega (arith, h.above);
      below = omega (arith, h.below);
      nodes = omega (arith, h.nodes);
    }
part_put (nth a b c) zero s = first_of_three a b c s
part_put (nth a b c) (suc zero) s = second_of_three a b c s
part_put (nth a b c) (suc (suc zero)) s = third_of_three a b c s
part_put (len a) zero s = in_one a s
part_put (bool_expr false) k s = tt
part_put (bool_expr true) k s = tt
part_put _ k s = tt

-- at a path too
pub put_at : (p : List ℕ) (e c s : Expression) → part_at e p ≡ Some c → (v : Expression) × (with_part_at e p s ≡ Some v)
put_at [] e c s i = (s, refl)
put_at (k ∷ p) e c s i = go (λ a j. put_at p a c s j) (part e k) refl i
  where
    go : ((a : Expression) → part_at a p ≡ Some c → (d : Expression) × (with_part_at a p s ≡ Some d)) → (o : Option Expression) → part e k ≡ o
        → option_and_then (λ z. part_at z p) o ≡ Some c → (v : Expression) × (with_part_at e (k ∷ p) s ≡ Some v)
    go below None j r = absurd (none-some c r)
    go below (Some a) j r =
        let d : (d : Expression) × (with_part_at a p s ≡ Some d) = below a r in
        let put : Has (with_part e k d.0) (λ v. Put a d.0 (height_of e) (nodes_in e) (height_of v) (nodes_in v)) =
        value_is (λ z. Has (with_part e k d.0) (λ v. Put z d.0 (height_of e) (nodes_in e) (height_of v) (nodes_in v))) j (part_put e k d.0) in
        let v = what_is_there (λ v. Put a d.0 (height_of e) (nodes_in e) (height_of v) (nodes_in v)) (with_part e k d.0) put in (
          v.0,
          ap (option_and_then (λ z. option_and_then (with_part e k) (with_part_at z p s))) j ∙ (ap (option_and_then (with_part e k)) d.1 ∙ v.1),
        )
