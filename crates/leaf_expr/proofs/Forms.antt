-- The forms of expressions, group by group.
use Rattle.std.proofs.Common.{◌≡◌, ℕ, Bool, true, false, if◌then◌else◌, List, [], ◌∷◌, ◌++◌, Some, None, refl, ◌∙◌}
use Rattle.std.specs.Prelude.{bytes_eq}
use Rattle.leaf_core.specs.Expression.{Expression}
use Rattle.leaf_expr.specs.Language.{Production, production_among}
use Rattle.leaf_expr.specs.Grammar.{LeafSort, LeafTree, expression_sort, production_at, productions, other_productions, unary_productions, binary_productions, ternary_productions, typed_productions}

-- where a word begins a production of the first of two lists, and where it begins none
module _ {S : Type 0} {T : S → Type 0} {R : Type 0} (w : List ℕ) where
  pub hit : (xs ys : List (Production S T R)) (r : Production S T R) → production_among w xs ≡ Some r → production_among w (xs ++ ys) ≡ Some r
  hit [] ys r e = absurd (cc)
  hit (x ∷ xs) ys r e = go (bytes_eq w x.name) (hit xs ys r) e
    where
      go : (b : Bool) → (production_among w xs ≡ Some r → production_among w (xs ++ ys) ≡ Some r) → (if b then Some x else production_among w xs) ≡ Some r
          → (if b then Some x else production_among w (xs ++ ys)) ≡ Some r
      go true f p = p
      go false f p = f p

  pub miss : (xs ys : List (Production S T R)) → production_among w xs ≡ None → production_among w (xs ++ ys) ≡ production_among w ys
  miss [] ys e = refl
  miss (x ∷ xs) ys e = go (bytes_eq w x.name) (miss xs ys) e
    where
      go : (b : Bool) → (production_among w xs ≡ None → production_among w (xs ++ ys) ≡ production_among w ys) → (if b then Some x else production_among w xs) ≡ None
          → (if b then Some x else production_among w (xs ++ ys)) ≡ production_among w ys
      go true f p = absurd (cc)
      go false f p = f p

abbrev Productions : Type 0
Productions = List (Production LeafSort LeafTree Expression)

-- a word in no group so far
abbrev upto_unary : Productions
upto_unary = other_productions ++ unary_productions

abbrev upto_binary : Productions
upto_binary = upto_unary ++ binary_productions

abbrev upto_ternary : Productions
upto_ternary = upto_binary ++ ternary_productions

module _ (w : List ℕ) where
  pub in_other : (r : Production LeafSort LeafTree Expression) → production_among w other_productions ≡ Some r → production_at expression_sort w ≡ Some r
  unfolding production_at productions
  in_other r e = hit w upto_ternary typed_productions r (hit w upto_binary ternary_productions r (hit w upto_unary binary_productions r (hit w other_productions unary_productions r e)))

  module _ (a : production_among w other_productions ≡ None) where
    pub in_unary : (r : Production LeafSort LeafTree Expression) → production_among w unary_productions ≡ Some r → production_at expression_sort w ≡ Some r
    unfolding production_at productions
    in_unary r e = hit w upto_ternary typed_productions r (hit w upto_binary ternary_productions r (hit w upto_unary binary_productions r (miss w other_productions unary_productions a ∙ e)))

    module _ (b : production_among w unary_productions ≡ None) where
      no_unary : production_among w upto_unary ≡ None
      no_unary = miss w other_productions unary_productions a ∙ b

      pub in_binary : (r : Production LeafSort LeafTree Expression) → production_among w binary_productions ≡ Some r → production_at expression_sort w ≡ Some r
      unfolding production_at productions
      in_binary r e = hit w upto_ternary typed_productions r (hit w upto_binary ternary_productions r (miss w upto_unary binary_productions no_unary ∙ e))

      module _ (c : production_among w binary_productions ≡ None) where
        no_binary : production_among w upto_binary ≡ None
        no_binary = miss w upto_unary binary_productions no_unary ∙ c

        pub in_ternary : (r : Production LeafSort LeafTree Expression) → production_among w ternary_productions ≡ Some r → production_at expression_sort w ≡ Some r
        unfolding production_at productions
        in_ternary r e = hit w upto_ternary typed_productions r (miss w upto_binary ternary_productions no_binary ∙ e)

        module _ (d : production_among w ternary_productions ≡ None) where
          pub in_typed : production_at expression_sort w ≡ production_among w typed_productions
          unfolding production_at productions
          in_typed = miss w upto_ternary typed_productions (miss w upto_binary ternary_productions no_binary ∙ d)
