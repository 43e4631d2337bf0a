-- Where a step led, its law's answer stands at the step's position.
use Rattle.std.proofs.Common.{◌≡◌, ℕ, ◌+◌, List, [], ◌∷◌, Option, Some, None, IfSome, option_map, refl, sym, ap, ◌∙◌, subst}
use Rattle.std.proofs.lemmas.Option.{none-some, same_Some}
use Rattle.sample_core.specs.TypeTree.{TypeTree}
use Rattle.leaf_core.specs.Expression.{Expression}
use Rattle.leaf_core.specs.Parts.{with_part_at, InputAt}
use Rattle.leaf_core.proofs.PartTypes.{kept_there}
use Rattle.net_tree.specs.Network.{Network}
use Rattle.net_tree.specs.Place.{◌>>=◌, Tree, a_network, a_leaf, child}
use Rattle.net_syntax.specs.Placed.{Placed, placed, placed_at, bound_in, with_child, replaced}
use Rattle.net_syntax.specs.Standing.{Standing, alone, StandsAt, at_network, inside_network, inside_expression}
use Rattle.net_syntax.specs.StandingWalk.{inside}
use Rattle.net_tree.specs.LawStep.{Step}
use Rattle.net_meaning.specs.TypedNetwork.{TypedNetwork}
use Rattle.net_types.proofs.ChangedPlaces.{kept}
use Rattle.cert_check.specs.Derives.{Next, standing_tree}

-- the tree of a place
abbrev tree_in : Option Placed → Option (Tree Expression)
tree_in o = option_map (λ c. c.tree) o

-- an expression with a part replaced
leaf_now : (R : Standing) (e : Expression) (p : List ℕ) (D : TypeTree) → InputAt R.params R.input e p D → (s w : Tree Expression) (m n : ℕ)
    → replaced (a_leaf e) p s ≡ Some w → tree_in (placed_at m n w p) ≡ Some s
leaf_now R e p D g (a_leaf s) w m n r = go (with_part_at e p s) refl r
  where
    go : (o : Option Expression) → with_part_at e p s ≡ o → option_map a_leaf o ≡ Some w → tree_in (placed_at m n w p) ≡ Some (a_leaf s)
    go None j q = absurd (none-some w q)
    go (Some v) j q = subst (λ z. tree_in (placed_at m n z p) ≡ Some (a_leaf s)) (same_Some (a_leaf v) w q)
        (ap (λ o. tree_in (option_map (λ c. placed m n (a_leaf c)) o)) (kept_there e p s v j g).0)
leaf_now R e p D g (a_network s) w m n r = absurd (none-some w r)

-- the network in which child k, c, became d
child_now : (R : Standing) (f : Network Expression) (k : ℕ) (p : List ℕ) (s d w : Tree Expression) (m n : ℕ)
    → ((a b : ℕ) → tree_in (placed_at a b d p) ≡ Some s) → option_map a_network (with_child f k d) ≡ Some w
    → tree_in (placed_at m n w (k ∷ p)) ≡ Some s
child_now R f k p s d w m n below r = go (with_child f k d) (kept R f k d) r
  where
    go : (o : Option (Network Expression)) → IfSome o (λ v. (inside R v k ≡ inside R f k) × (child v k ≡ Some d)) → option_map a_network o ≡ Some w
        → tree_in (placed_at m n w (k ∷ p)) ≡ Some s
    go None h q = absurd (none-some w q)
    go (Some v) h q = subst (λ z. tree_in (placed_at m n z (k ∷ p)) ≡ Some s) (same_Some (a_network v) w q)
        (ap (λ o. tree_in (o >>= (λ c. placed_at (m + (bound_in v k).params) (n + (bound_in v k).olds) c p))) h.1
        ∙ below (m + (bound_in v k).params) (n + (bound_in v k).olds))

-- where a tree is replaced, the other one stands
pub stands_now : (R Q : Standing) (tree there : Tree Expression) (p : List ℕ) (s w : Tree Expression) (m n : ℕ) → StandsAt R tree p there Q
    → replaced tree p s ≡ Some w → tree_in (placed_at m n w p) ≡ Some s
stands_now R Q tree there p s w m n (at_network {f = f}) r = go s r
  where
    go : (s : Tree Expression) → replaced (a_network f) [] s ≡ Some w → tree_in (placed_at m n w []) ≡ Some s
    go (a_network s) q = subst (λ z. tree_in (placed_at m n z []) ≡ Some (a_network s)) (same_Some (a_network s) w q) refl
    go (a_leaf s) q = absurd (none-some w q)
stands_now R Q tree there p s w m n (inside_expression {e = e} {C = D} i g) r = leaf_now R e p D g s w m n r
stands_now R Q tree there p s w m n (inside_network {R = P} {f = f} {c = c} {k = k} {p = p'} i g h) r =
    go (λ d a b j. stands_now P Q c there p' s d a b h j) (replaced c p' s) refl (ap (λ o. o >>= (λ z. replaced z p' s >>= (λ d. option_map a_network (with_child f k d)))) (sym i) ∙ r)
  where
    go : ((d : Tree Expression) (a b : ℕ) → replaced c p' s ≡ Some d → tree_in (placed_at a b d p') ≡ Some s) → (o : Option (Tree Expression)) → replaced c p' s ≡ o → (o >>= (λ d. option_map a_network (with_child f k d))) ≡ Some w
        → tree_in (placed_at m n w (k ∷ p')) ≡ Some s
    go below None j q = absurd (none-some w q)
    go below (Some d) j q = child_now R f k p' s d w m n (λ a b. below d a b j) q

-- so where a step led
pub next_there : (t u : TypedNetwork) (s : Step) (x : Next t s u) → standing_tree u s.position ≡ Some x.new
next_there t u s x =
    let h = x.rewritten.keeps_type in
    stands_now (alone t.input) h.standing (a_network t.net) h.there s.position x.new (a_network u.net) 0 0 h.stands x.rewritten.result
