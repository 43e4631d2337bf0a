-- The weight of a network: each node counts 1 and adds its child networks; what may run twice in one
-- sample counts twice, and `rpSwitchB` counts 64 times the greatest of its own.
use Rattle.std.specs.Prelude.{ℕ, suc, ◌+◌, ◌*◌, List, [], ◌∷◌, ◌++◌, get_or}
use Rattle.net_tree.specs.Network.{Network, Networks, seq, first, par, loop_pre, initial_out, initial_in, at_once, delayed, switch, r_switch, rp_switch, k_switch, p_switch, old, no_members, and_member}
use Rattle.net_tree.specs.Height.{greatest}

-- the weight of the frozen network k, 0 if there is none
abbrev pub weight_at : List ℕ → ℕ → ℕ
weight_at ws k = get_or ws k 0

-- the sum of a list
abbrev pub total : List ℕ → ℕ
total [] = 0
total (n ∷ ns) = n + total ns

abbrev mutual
  -- what a network weighs: its networks, counted more often where they may run more than once; a
  -- resumed one counts the frozen one too, whose weight is in ws
  pub weight : {L : Type 0} → Network L → List ℕ → ℕ
  weight (seq f g) ws = suc (weight f ws + weight g ws)
  weight (first f) ws = suc (weight f ws)
  weight (par fs) ws = suc (total (weights fs ws))
  weight (loop_pre c f) ws = suc (weight f ws)
  weight (switch tm f t) ws = suc (weight f ws + weight t ws)
  weight (r_switch at_once f t) ws = suc (weight f ws + weight t ws)
  weight (r_switch delayed f t) ws = suc (weight f ws + 2 * weight t ws)
  weight (k_switch f e t) ws = suc (weight f ws + weight e ws + weight t (ws ++ weight f ws ∷ []))
  weight (p_switch r fs e t) ws =
      suc (total (weights fs ws) + weight e ws + weight t (ws ++ weights fs ws))
  weight (old k) ws = suc (weight_at ws k)
  weight (initial_out c f) ws = suc (weight f ws)
  weight (initial_in c f) ws = suc (weight f ws)
  weight (rp_switch fs m t) ws = suc (64 * greatest (weight t ws ∷ weights fs ws))
  weight _ ws = 1

  -- each member's weight
  pub weights : {L : Type 0} → Networks L → List ℕ → List ℕ
  weights no_members ws = []
  weights (and_member f fs) ws = weight f ws ∷ weights fs ws
