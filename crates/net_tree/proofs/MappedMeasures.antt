-- A network whose leaves are changed weighs as much.
use Rattle.std.proofs.Common.{◌≡◌, ℕ, suc, ◌+◌, ◌*◌, List, [], ◌∷◌, ◌++◌, refl, ap, ◌∙◌}
use Rattle.net_tree.specs.Network.{Network, Networks, seq, first, par, loop_pre, initial_out, initial_in, at_once, delayed, switch, r_switch, k_switch, p_switch, rp_switch, no_members, and_member, map_network, map_networks}
use Rattle.net_tree.specs.Weight.{weight, weights, total}
use Rattle.net_tree.specs.Height.{greatest}

mutual
  pub weight_map : {L M : Type 0} (h : L → M) (n : Network L) (ws : List ℕ) → weight (map_network h n) ws ≡ weight n ws
  weight_map h (seq f g) ws = λ i. suc (weight_map h f ws i + weight_map h g ws i)
  weight_map h (first f) ws = ap suc (weight_map h f ws)
  weight_map h (par fs) ws = ap (λ o. suc (total o)) (weights_map h fs ws)
  weight_map h (loop_pre c f) ws = ap suc (weight_map h f ws)
  weight_map h (switch tm f t) ws = λ i. suc (weight_map h f ws i + weight_map h t ws i)
  weight_map h (r_switch at_once f t) ws = λ i. suc (weight_map h f ws i + weight_map h t ws i)
  weight_map h (r_switch delayed f t) ws = λ i. suc (weight_map h f ws i + 2 * weight_map h t ws i)
  weight_map h (k_switch f e t) ws =
      λ i. suc (weight_map h f ws i + weight_map h e ws i
      + (ap (λ o. weight (map_network h t) (ws ++ o ∷ [])) (weight_map h f ws) ∙ weight_map h t (ws ++ weight f ws ∷ [])) i)
  weight_map h (p_switch r fs e t) ws =
      λ i. suc (total (weights_map h fs ws i) + weight_map h e ws i
      + (ap (λ o. weight (map_network h t) (ws ++ o)) (weights_map h fs ws) ∙ weight_map h t (ws ++ weights fs ws)) i)
  weight_map h (initial_out c f) ws = ap suc (weight_map h f ws)
  weight_map h (initial_in c f) ws = ap suc (weight_map h f ws)
  weight_map h (rp_switch fs m t) ws = λ i. suc (64 * greatest (weight_map h t ws i ∷ weights_map h fs ws i))
  weight_map h _ ws = refl

  weights_map : {L M : Type 0} (h : L → M) (fs : Networks L) (ws : List ℕ) → weights (map_networks h fs) ws ≡ weights fs ws
  weights_map h no_members ws = refl
  weights_map h (and_member f fs) ws = λ i. weight_map h f ws i ∷ weights_map h fs ws i
