-- Where networks stand in one another inside a tree, a network in which the tree stands is that high.
use Rattle.std.proofs.Common.{◌≡◌, ℕ, zero, suc, ◌+◌, ◌-◌, ◌≤◌, ◌<◌, max, List, [], ◌∷◌, ◌++◌, length, Option, Some, None, option_map, refl, sym, subst, arith}
use Rattle.std.specs.Prelude.{IfSome}
use Rattle.std.proofs.lemmas.Option.{none-some, same_Some}
use Rattle.leaf_core.specs.Expression.{Expression}
use Rattle.leaf_core.specs.Parts.{part_at}
use Rattle.net_tree.specs.Network.{Network, Networks, arr, seq, first, par, loop_pre, i_pre, delay, hold, accum_by, after, repeatedly, switch, r_switch, k_switch, p_switch, old, initial_out, initial_in, rp_switch, no_members, and_member}
use Rattle.net_tree.specs.Height.{height, heights, greatest}
use Rattle.net_tree.specs.Place.{◌>>=◌, Tree, a_network, a_leaf, member, child, child_network, collection_child, PSwitchChild, p_switch_child, member_child, event_child, continuation_child, no_child}
use Rattle.net_syntax.specs.Placed.{Placed, placed, placed_at, bound_in}
use Rattle.net_syntax.specs.Standing.{alone}
use Rattle.net_types.specs.Answered.{NoRewriting}
use Rattle.net_meaning.specs.TypedNetwork.{TypedNetwork}
use Rattle.cert_check.proofs.StandsNow.{stands_now}
use Rattle.net_opt.specs.Nesting.{IsNested, not_nested, nested_in, IsTooHigh}

-- a network inside another one of this height is lower, whatever is frozen
abbrev IsLower : ℕ → Tree Expression → Type 0
IsLower h (a_network g) = (hs : List ℕ) × (height g hs < h)
IsLower h (a_leaf e) = Unit {0}

member_low : (fs : Networks Expression) (k : ℕ) (hs : List ℕ) → IfSome (member fs k) (λ g. height g hs ≤ greatest (heights fs hs))
member_low no_members k hs = tt
member_low (and_member f fs) zero hs = omega arith
member_low (and_member f fs) (suc k) hs = go (member fs k) (member_low fs k hs)
  where
    go : (o : Option (Network Expression)) → IfSome o (λ g. height g hs ≤ greatest (heights fs hs))
        → IfSome o (λ g. height g hs ≤ max (height f hs) (greatest (heights fs hs)))
    go None h = tt
    go (Some g) h = omega (arith, h)

members_lower : (fs : Networks Expression) (k : ℕ) (hs : List ℕ) (h : ℕ) → greatest (heights fs hs) < h → IfSome (option_map a_network (member fs k)) (IsLower h)
members_lower fs k hs h l = go (member fs k) (member_low fs k hs)
  where
    go : (o : Option (Network Expression)) → IfSome o (λ g. height g hs ≤ greatest (heights fs hs)) → IfSome (option_map a_network o) (IsLower h)
    go None m = tt
    go (Some g) m = (hs, omega (arith, m, l))

behind_lower : (c : PSwitchChild) (fs : Networks Expression) (e t : Network Expression) (k : ℕ) (hs us : List ℕ) (h : ℕ) → greatest (heights fs hs) < h → height e hs < h
    → height t us < h → IfSome (option_map a_network (child_network c fs e t k)) (IsLower h)
behind_lower member_child fs e t k hs us h l m n = members_lower fs k hs h l
behind_lower event_child fs e t k hs us h l m n = (hs, m)
behind_lower continuation_child fs e t k hs us h l m n = (us, n)
behind_lower no_child fs e t k hs us h l m n = tt

collection_lower : (c : PSwitchChild) (fs : Networks Expression) (m : Expression) (t : Network Expression) (k : ℕ) (hs : List ℕ) (h : ℕ) → greatest (heights fs hs) < h
    → height t hs < h → IfSome (collection_child c fs m t k) (IsLower h)
collection_lower member_child fs m t k hs h l n = members_lower fs k hs h l
collection_lower event_child fs m t k hs h l n = tt
collection_lower continuation_child fs m t k hs h l n = (hs, n)
collection_lower no_child fs m t k hs h l n = tt

child_lower : (f : Network Expression) (k : ℕ) (hs : List ℕ) → IfSome (child f k) (IsLower (height f hs))
child_lower (arr e) zero hs = tt
child_lower (seq f g) zero hs = (hs, omega arith)
child_lower (seq f g) (suc zero) hs = (hs, omega arith)
child_lower (first f) zero hs = (hs, omega arith)
child_lower (par fs) k hs = members_lower fs k hs (suc (greatest (heights fs hs))) (omega arith)
child_lower (loop_pre c f) zero hs = tt
child_lower (loop_pre c f) (suc zero) hs = (hs, omega arith)
child_lower (i_pre c) zero hs = tt
child_lower (delay q c) zero hs = tt
child_lower (hold c) zero hs = tt
child_lower (accum_by g z) zero hs = tt
child_lower (accum_by g z) (suc zero) hs = tt
child_lower (after q c) zero hs = tt
child_lower (repeatedly q c) zero hs = tt
child_lower (switch tm f t) zero hs = (hs, omega arith)
child_lower (switch tm f t) (suc zero) hs = (hs, omega arith)
child_lower (r_switch tm f t) zero hs = (hs, omega arith)
child_lower (r_switch tm f t) (suc zero) hs = (hs, omega arith)
child_lower (k_switch f e t) zero hs = (hs, omega arith)
child_lower (k_switch f e t) (suc zero) hs = (hs, omega arith)
child_lower (k_switch f e t) (suc (suc zero)) hs = (hs ++ height f hs ∷ [], omega arith)
child_lower (p_switch r fs e t) zero hs = tt
child_lower (p_switch r fs e t) (suc k) hs =
    behind_lower (p_switch_child fs k) fs e t k hs (hs ++ heights fs hs) (height (p_switch r fs e t) hs) (omega arith) (omega arith) (omega arith)
child_lower (initial_out c f) zero hs = tt
child_lower (initial_out c f) (suc zero) hs = (hs, omega arith)
child_lower (initial_in c f) zero hs = tt
child_lower (initial_in c f) (suc zero) hs = (hs, omega arith)
child_lower (rp_switch fs m t) k hs =
    collection_lower (p_switch_child fs k) fs m t k hs (height (rp_switch fs m t) hs) (omega arith) (omega arith)
child_lower _ k hs = tt

-- a network has a height
some_height : (f : Network Expression) (hs : List ℕ) → 0 < height f hs
some_height (seq f g) hs = omega arith
some_height (first f) hs = omega arith
some_height (par fs) hs = omega arith
some_height (loop_pre c f) hs = omega arith
some_height (switch tm f t) hs = omega arith
some_height (r_switch tm f t) hs = omega arith
some_height (k_switch f e t) hs = omega arith
some_height (p_switch r fs e t) hs = omega arith
some_height (old k) hs = omega arith
some_height (initial_out c f) hs = omega arith
some_height (initial_in c f) hs = omega arith
some_height (rp_switch fs m t) hs = omega arith
some_height _ hs = omega arith

-- so many networks in one another make it that high
nested_high : {n : ℕ} {f : Network Expression} → IsNested n f → (hs : List ℕ) → n < height f hs
nested_high (not_nested {f = f}) hs = some_height f hs
nested_high (nested_in {n = n} {f = f} k g is h) hs =
    let l : IsLower (height f hs) (a_network g) = subst (λ o. IfSome o (IsLower (height f hs))) is (child_lower f k hs) in
    omega (arith, l.1, nested_high h l.0)

-- what stands at a position stands in as many networks as it has numbers
abbrev tree_in : Option Placed → Option (Tree Expression)
tree_in o = option_map (λ c. c.tree) o

no_network : (m n : ℕ) (o : Option Expression) (g : Network Expression) → tree_in (option_map (λ x. placed m n (a_leaf x)) o) ≡ Some (a_network g) → ⊥
no_network m n None g h = none-some (a_network g) h
no_network m n (Some x) g h = absurd (cc)

nested_onward : (p : List ℕ) (k m n d : ℕ) (f g : Network Expression) → ((c : Network Expression) → tree_in (placed_at m n (a_network c) p) ≡ Some (a_network g) → IsNested d c)
    → (o : Option (Tree Expression)) → child f k ≡ o → tree_in (o >>= (λ u. placed_at m n u p)) ≡ Some (a_network g) → IsNested (suc d) f
nested_onward p k m n d f g below None is h = absurd (none-some (a_network g) h)
nested_onward p k m n d f g below (Some (a_network c)) is h = nested_in k c is (below c h)
nested_onward p k m n d f g below (Some (a_leaf e)) is h = absurd (no_network m n (part_at e p) g h)

nested_below : (p : List ℕ) (m n d : ℕ) (f g : Network Expression) → tree_in (placed_at m n (a_network f) p) ≡ Some (a_network g) → IsNested d g → IsNested (length p + d) f
nested_below [] m n d f g h i =
    let same : a_network f ≡ a_network g = same_Some (a_network f) (a_network g) h in
    let e : f ≡ g = cc in
    let none : d ≡ length {A = ℕ} [] + d = omega arith in
    subst (λ z. IsNested z f) none (subst (IsNested d) (sym e) i)
nested_below (k ∷ p) m n d f g h i =
    let one_more : suc (length p + d) ≡ length (k ∷ p) + d = omega arith in
    subst (λ z. IsNested z f) one_more
    (nested_onward p k (m + (bound_in f k).params) (n + (bound_in f k).olds) (length p + d) f g
    (λ c j. nested_below p (m + (bound_in f k).params) (n + (bound_in f k).olds) d c g j i) (child f k) refl h)

-- a tree that is too high where it is to stand can't be put there
pub too_high : (t : TypedNetwork) (p : List ℕ) (new : Tree Expression) → IsTooHigh (length p) new → NoRewriting t p new
too_high t p (a_leaf e) h = absurd h
too_high t p (a_network g) h = λ u w.
    let k = w.keeps_type in
    let now : tree_in (placed_at 0 0 (a_network u.net) p) ≡ Some (a_network g) =
    stands_now (alone t.input) k.standing (a_network t.net) k.there p (a_network g) (a_network u.net) 0 0 k.stands w.result in
    let high : length p + (256 - length p) < height u.net [] = nested_high (nested_below p 0 0 (256 - length p) u.net g now h) [] in
    omega (arith, high, w.within.fits.low)
