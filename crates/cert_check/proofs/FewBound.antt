-- In a network within the limits few parameters and few frozen networks are in scope, wherever a position leads.
use Rattle.std.proofs.Common.{◌≡◌, ℕ, zero, suc, ◌+◌, ◌^◌, ◌≤◌, ◌<◌, List, [], ◌∷◌, Option, Some, None, option_map, refl, arith}
use Rattle.std.specs.Prelude.{IfSome}
use Rattle.leaf_core.specs.Expression.{Expression}
use Rattle.leaf_core.proofs.PartTypes.{value_is}
use Rattle.net_tree.specs.Network.{Network, Networks, network_size, networks_size, arr, seq, first, par, loop_pre, i_pre, delay, hold, accum_by, after, repeatedly, switch, r_switch, k_switch, p_switch, initial_out, initial_in, rp_switch, no_members, and_member}
use Rattle.net_meaning.specs.Typing.{members}
use Rattle.net_meaning.specs.NetworkLimits.{WithinLimits}
use Rattle.net_meaning.specs.TypedNetwork.{TypedNetwork}
use Rattle.net_tree.specs.Place.{Tree, a_network, a_leaf, member, child, child_network, collection_child, PSwitchChild, p_switch_child, member_child, event_child, continuation_child, no_child}
use Rattle.net_tree.specs.declared.measure.TheConstants.{MOST_SIZE}
use Rattle.net_syntax.specs.Placed.{Bound, bound, bound_in, bound_behind, bound_started, FewBound}
use Rattle.net_syntax.proofs.Children.{members_few}
use Rattle.net_types.proofs.Sizes.{few_inside}

abbrev tree_size : Tree Expression → ℕ
tree_size (a_network f) = network_size f
tree_size (a_leaf e) = 0

-- what is bound in a child, and what stands in it, fit into a size
record Smaller (size : ℕ) (b : Bound) (c : Tree Expression) : Type 0 where
  params_fit : b.params + tree_size c ≤ size
  olds_fit : b.olds + tree_size c ≤ size

member_size : (fs : Networks Expression) (k size : ℕ) → networks_size fs ≤ size → IfSome (option_map a_network (member fs k)) (Smaller size (bound 0 0))
member_size no_members k size h = tt
member_size (and_member f fs) zero size h = record { params_fit = omega arith; olds_fit = omega arith }
member_size (and_member f fs) (suc k) size h = let l : networks_size fs ≤ size = omega arith in member_size fs k size l

behind_smaller : (r : Expression) (fs : Networks Expression) (e t : Network Expression) (k : ℕ) (w : PSwitchChild)
    → IfSome (option_map a_network (child_network w fs e t k)) (Smaller (network_size (p_switch r fs e t)) (bound_behind w fs))
behind_smaller r fs e t k member_child = member_size fs k (network_size (p_switch r fs e t)) (omega arith)
behind_smaller r fs e t k event_child = record { params_fit = omega arith; olds_fit = omega arith }
behind_smaller r fs e t k continuation_child = let l : members fs ≤ networks_size fs = members_few fs in record { params_fit = omega arith; olds_fit = omega arith }
behind_smaller r fs e t k no_child = tt

collection_smaller : (fs : Networks Expression) (m : Expression) (t : Network Expression) (k : ℕ) (w : PSwitchChild)
    → IfSome (collection_child w fs m t k) (Smaller (network_size (rp_switch fs m t)) (bound_started w))
collection_smaller fs m t k member_child = member_size fs k (network_size (rp_switch fs m t)) (omega arith)
collection_smaller fs m t k event_child = record { params_fit = omega arith; olds_fit = omega arith }
collection_smaller fs m t k continuation_child = record { params_fit = omega arith; olds_fit = omega arith }
collection_smaller fs m t k no_child = tt

smaller : (f : Network Expression) (k : ℕ) → IfSome (child f k) (Smaller (network_size f) (bound_in f k))
smaller (arr e) zero = record { params_fit = omega arith; olds_fit = omega arith }
smaller (seq f g) zero = record { params_fit = omega arith; olds_fit = omega arith }
smaller (seq f g) (suc zero) = record { params_fit = omega arith; olds_fit = omega arith }
smaller (first f) zero = record { params_fit = omega arith; olds_fit = omega arith }
smaller (par fs) k = member_size fs k (network_size (par fs)) (omega arith)
smaller (loop_pre c f) zero = record { params_fit = omega arith; olds_fit = omega arith }
smaller (loop_pre c f) (suc zero) = record { params_fit = omega arith; olds_fit = omega arith }
smaller (i_pre c) zero = record { params_fit = omega arith; olds_fit = omega arith }
smaller (delay q c) zero = record { params_fit = omega arith; olds_fit = omega arith }
smaller (hold c) zero = record { params_fit = omega arith; olds_fit = omega arith }
smaller (accum_by g z) zero = record { params_fit = omega arith; olds_fit = omega arith }
smaller (accum_by g z) (suc zero) = record { params_fit = omega arith; olds_fit = omega arith }
smaller (after q c) zero = record { params_fit = omega arith; olds_fit = omega arith }
smaller (repeatedly q c) zero = record { params_fit = omega arith; olds_fit = omega arith }
smaller (switch tm f t) zero = record { params_fit = omega arith; olds_fit = omega arith }
smaller (switch tm f t) (suc zero) = record { params_fit = omega arith; olds_fit = omega arith }
smaller (r_switch tm f t) zero = record { params_fit = omega arith; olds_fit = omega arith }
smaller (r_switch tm f t) (suc zero) = record { params_fit = omega arith; olds_fit = omega arith }
smaller (k_switch f e t) zero = record { params_fit = omega arith; olds_fit = omega arith }
smaller (k_switch f e t) (suc zero) = record { params_fit = omega arith; olds_fit = omega arith }
smaller (k_switch f e t) (suc (suc zero)) = record { params_fit = omega arith; olds_fit = omega arith }
smaller (p_switch r fs e t) zero = record { params_fit = omega arith; olds_fit = omega arith }
smaller (p_switch r fs e t) (suc k) = behind_smaller r fs e t k (p_switch_child fs k)
smaller (initial_out c f) zero = record { params_fit = omega arith; olds_fit = omega arith }
smaller (initial_out c f) (suc zero) = record { params_fit = omega arith; olds_fit = omega arith }
smaller (initial_in c f) zero = record { params_fit = omega arith; olds_fit = omega arith }
smaller (initial_in c f) (suc zero) = record { params_fit = omega arith; olds_fit = omega arith }
smaller (rp_switch fs m t) k = collection_smaller fs m t k (p_switch_child fs k)
smaller _ k = tt

few_behind : (f : Network Expression) (k m n : ℕ) (p : List ℕ) (o : Option (Tree Expression)) → child f k ≡ o → m + network_size f < 2 ^ 32
    → n + network_size f < 2 ^ 32
    → ((a b : ℕ) (c : Tree Expression) → a + tree_size c < 2 ^ 32 → b + tree_size c < 2 ^ 32 → FewBound a b c p)
    → IfSome o (λ c. FewBound (m + (bound_in f k).params) (n + (bound_in f k).olds) c p)
few_behind f k m n p None e hm hn go = tt
few_behind f k m n p (Some c) e hm hn go =
    let h : Smaller (network_size f) (bound_in f k) c = value_is (Smaller (network_size f) (bound_in f k)) e (smaller f k) in
    let hp : (bound_in f k).params + tree_size c ≤ network_size f = h.params_fit in
    let ho : (bound_in f k).olds + tree_size c ≤ network_size f = h.olds_fit in
    go (m + (bound_in f k).params) (n + (bound_in f k).olds) c (omega arith) (omega arith)

few : (p : List ℕ) (m n : ℕ) (tree : Tree Expression) → m + tree_size tree < 2 ^ 32 → n + tree_size tree < 2 ^ 32 → FewBound m n tree p
few p m n (a_leaf e) hm hn = (omega arith, omega arith)
few [] m n (a_network f) hm hn = (omega arith, omega arith)
few (k ∷ p) m n (a_network f) hm hn = (omega arith, omega arith, few_behind f k m n p (child f k) refl hm hn (few p))

-- a network within the limits
pub few_bound : (t : TypedNetwork) (p : List ℕ) → WithinLimits t → FewBound 0 0 (a_network t.net) p
few_bound t p h =
    let l : network_size t.net ≤ MOST_SIZE = few_inside h.fits.typed h.fits.light in
    few p 0 0 (a_network t.net) (omega arith) (omega arith)
