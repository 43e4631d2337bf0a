-- The height of a network: 1 without child networks, else 1 plus the greatest child's.
use Rattle.std.specs.Prelude.{ℕ, suc, max, List, [], ◌∷◌, ◌++◌, get_or}
use Rattle.net_tree.specs.Network.{Network, Networks, seq, first, par, loop_pre, initial_out, initial_in, switch, r_switch, rp_switch, k_switch, p_switch, old, no_members, and_member}

-- the height of the frozen network k, 0 if there is none
abbrev pub height_at : List ℕ → ℕ → ℕ
height_at hs k = get_or hs k 0

-- the greatest of a list, 0 of none
abbrev pub greatest : List ℕ → ℕ
greatest [] = 0
greatest (n ∷ ns) = max n (greatest ns)

abbrev mutual
  -- how many nodes stand in one another, at most; a resumed one stands over the frozen one, whose
  -- height is in hs
  pub height : {L : Type 0} → Network L → List ℕ → ℕ
  height (seq f g) hs = suc (max (height f hs) (height g hs))
  height (first f) hs = suc (height f hs)
  height (par fs) hs = suc (greatest (heights fs hs))
  height (loop_pre c f) hs = suc (height f hs)
  height (switch tm f t) hs = suc (max (height f hs) (height t hs))
  height (r_switch tm f t) hs = suc (max (height f hs) (height t hs))
  height (k_switch f e t) hs =
      suc (max (max (height f hs) (height e hs)) (height t (hs ++ height f hs ∷ [])))
  height (p_switch r fs e t) hs =
      suc (max (max (greatest (heights fs hs)) (height e hs)) (height t (hs ++ heights fs hs)))
  height (old k) hs = suc (height_at hs k)
  height (initial_out c f) hs = suc (height f hs)
  height (initial_in c f) hs = suc (height f hs)
  height (rp_switch fs m t) hs = suc (max (greatest (heights fs hs)) (height t hs))
  height _ hs = 1

  -- each member's height
  pub heights : {L : Type 0} → Networks L → List ℕ → List ℕ
  heights no_members hs = []
  heights (and_member f fs) hs = height f hs ∷ heights fs hs
