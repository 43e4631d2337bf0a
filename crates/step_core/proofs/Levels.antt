-- What falls at each call of the engine where the same network runs on.
use Rattle.std.proofs.Common.{ℕ, ◌≤◌, arith}
use Rattle.net_tree.specs.Network.{Network, arr, seq, first, par, loop_pre, initial_out, initial_in, i_pre, delay, hold, accum_by, after, repeatedly, time, integral, switch, r_switch, rp_switch, k_switch, p_switch, old}

-- a network that runs at a place of its own is handed on to it; a `-->` or a `>--` that has started
-- is its part
abbrev pub level : Network ℕ → ℕ
level (switch tm f t) = 19
level (k_switch f e t) = 19
level (p_switch r fs e t) = 19
level (rp_switch fs m t) = 19
level (old k) = 19
level (initial_out c f) = 21
level (initial_in c f) = 21
level _ = 12

pub level_most : (net : Network ℕ) → level net ≤ 21
level_most (arr e) = omega arith
level_most (seq f g) = omega arith
level_most (first f) = omega arith
level_most (par fs) = omega arith
level_most (loop_pre c f) = omega arith
level_most (initial_out c f) = omega arith
level_most (initial_in c f) = omega arith
level_most (i_pre c) = omega arith
level_most (delay q c) = omega arith
level_most (hold c) = omega arith
level_most (accum_by g z) = omega arith
level_most (after q c) = omega arith
level_most (repeatedly q c) = omega arith
level_most time = omega arith
level_most integral = omega arith
level_most (switch tm f t) = omega arith
level_most (r_switch tm f t) = omega arith
level_most (rp_switch fs m t) = omega arith
level_most (k_switch f e t) = omega arith
level_most (p_switch r fs e t) = omega arith
level_most (old k) = omega arith
