-- Matching networks symbol by symbol.
use Rattle.std.specs.Prelude.{ℕ, Bool, true, false, nat_eq, List, [], ◌∷◌, map, Option, Some, None}
use Rattle.std.proofs.Common.{Bor}
use Rattle.leaf_core.specs.Expression.{Expression}
use Rattle.leaf_core.specs.ExpressionCode.{expression_code}
use Rattle.leaf_core.specs.EqualityByCode.{same_by}
use Rattle.leaf_core.specs.declared.expr.Expr.{Expr}
use Rattle.net_tree.specs.Network.{Network, arr, seq, first, loop_pre, initial_out, initial_in, i_pre, delay, hold, accum_by, after, repeatedly, time, integral, at_once, delayed, switch, r_switch, k_switch}
use Rattle.net_tree.specs.NetworkCode.{network_code}
use Rattle.net_tree.specs.NetworkView.{tree_of}
use Rattle.net_tree.specs.declared.net.Net.{Net}
use Rattle.law_patterns.specs.declared.net_sym.NetLetter.{NetLetter}
use Rattle.law_patterns.specs.declared.net_sym.NetLetter.TheVariants as L
use Rattle.law_patterns.specs.declared.net_sym.NetSym.{NetSym}
use Rattle.law_patterns.specs.declared.net_sym.NetSym.TheVariants as S
use Rattle.law_patterns.specs.declared.net_letters.NetLetters.{NetLetters}
use Rattle.law_patterns.specs.Matching.{FoundLetters, Matching, failed, matching, nothing_found, found_of, step, completed}
use Rattle.law_patterns.specs.NetPattern.{NetAssignment, net_filled}

-- the trees that letters have by now
pub record NetFound : Type 0 where
  pub f : Option (Network Expression)
  pub g : Option (Network Expression)
  pub h : Option (Network Expression)
  pub q : Option ℕ
  pub exprs : FoundLetters

-- no letter has a tree
abbrev pub no_nets_found : NetFound
no_nets_found = record { f = None; g = None; h = None; q = None; exprs = nothing_found }

-- the network that the code holds, if there is one
abbrev pub held_network : Option (Bor (Net Expr)) → Option (Network Expression)
held_network None = None
held_network (Some n) = Some (tree_of n.now)

-- the networks that the code has on a stack
abbrev pub nets_todo_of : List (Bor (Net Expr)) → List (Network Expression)
nets_todo_of fs = map (λ n. tree_of n.now) fs

-- what the code's `NetLetters` hold
abbrev pub nets_found_of : NetLetters → NetFound
nets_found_of s = record {
  f = held_network s.f;
  g = held_network s.g;
  h = held_network s.h;
  q = s.q;
  exprs = found_of s.exprs;
}

-- the network of a letter, if it has one
abbrev pub net_found_at : NetFound → NetLetter → Option (Network Expression)
net_found_at s L.F = s.f
net_found_at s L.G = s.g
net_found_at s L.H = s.h

-- with this network for a letter
abbrev pub net_found_with : NetFound → NetLetter → Network Expression → NetFound
net_found_with s L.F n = record s { f = Some n }
net_found_with s L.G n = record s { g = Some n }
net_found_with s L.H n = record s { h = Some n }

-- how far a match has come: the expressions and the networks that are still to be matched, and the
-- trees of the letters
pub data NetMatching : Type 0 where
  net_failed : NetMatching
  net_matching : List Expression → List (Network Expression) → NetFound → NetMatching

-- a match that goes on, or has failed
abbrev pub net_going : Bool → List Expression → List (Network Expression) → NetFound → NetMatching
net_going true es fs s = net_matching es fs s
net_going false es fs s = net_failed

-- a letter that had that network, if any, at this one
abbrev pub net_bound : Option (Network Expression) → NetLetter → Network Expression
    → List Expression → List (Network Expression) → NetFound → NetMatching
net_bound None k n es fs s = net_matching es fs (net_found_with s k n)
net_bound (Some m) k n es fs s =
    net_going (same_by (network_code expression_code) m n) es fs s

-- the number letter, which had that number, if any, at this one
abbrev pub number_bound : Option ℕ → ℕ → List Expression → List (Network Expression) → NetFound
    → NetMatching
number_bound None q es fs s = net_matching es fs (record s { q = Some q })
number_bound (Some r) q es fs s = net_going (nat_eq r q) es fs s

-- a match of expressions, with these networks still to be matched
abbrev pub beside : List (Network Expression) → NetFound → Matching → NetMatching
beside fs s failed = net_failed
beside fs s (matching es found) = net_matching es fs (record s { exprs = found })

-- a letter or a form at a network: the parts of the form are to be matched next
abbrev pub net_met : NetSym → Network Expression → List Expression → List (Network Expression)
    → NetFound → NetMatching
net_met (S.Letter k) n es fs s = net_bound (net_found_at s k) k n es fs s
net_met S.Arr (arr e) es fs s = net_matching (e ∷ es) fs s
net_met S.IPre (i_pre e) es fs s = net_matching (e ∷ es) fs s
net_met S.Hold (hold e) es fs s = net_matching (e ∷ es) fs s
net_met S.Delay (delay q e) es fs s = number_bound s.q q (e ∷ es) fs s
net_met S.After (after q e) es fs s = number_bound s.q q (e ∷ es) fs s
net_met S.Now (after q e) es fs s = net_going (nat_eq q 0) (e ∷ es) fs s
net_met S.Repeatedly (repeatedly q e) es fs s = number_bound s.q q (e ∷ es) fs s
net_met S.Time time es fs s = net_matching es fs s
net_met S.Integral integral es fs s = net_matching es fs s
net_met S.AccumBy (accum_by g z) es fs s = net_matching (g ∷ z ∷ es) fs s
net_met S.LoopPre (loop_pre c f) es fs s = net_matching (c ∷ es) (f ∷ fs) s
net_met S.InitialOut (initial_out c f) es fs s = net_matching (c ∷ es) (f ∷ fs) s
net_met S.InitialIn (initial_in c f) es fs s = net_matching (c ∷ es) (f ∷ fs) s
net_met S.First (first f) es fs s = net_matching es (f ∷ fs) s
net_met S.Seq (seq f g) es fs s = net_matching es (f ∷ g ∷ fs) s
net_met S.Switch (switch at_once f g) es fs s = net_matching es (f ∷ g ∷ fs) s
net_met S.DSwitch (switch delayed f g) es fs s = net_matching es (f ∷ g ∷ fs) s
net_met S.RSwitch (r_switch at_once f g) es fs s = net_matching es (f ∷ g ∷ fs) s
net_met S.DrSwitch (r_switch delayed f g) es fs s = net_matching es (f ∷ g ∷ fs) s
net_met S.KSwitch (k_switch f g h) es fs s = net_matching es (f ∷ g ∷ h ∷ fs) s
net_met _ _ es fs s = net_failed

-- a letter or a form at the next network
abbrev pub next_met : NetSym → List Expression → List (Network Expression) → NetFound → NetMatching
next_met y es [] s = net_failed
next_met y es (n ∷ fs) s = net_met y n es fs s

-- a symbol at the expressions and networks
abbrev pub met_by : NetSym → List Expression → List (Network Expression) → NetFound → NetMatching
met_by (S.Leaf y) es fs s = beside fs s (step y (matching es s.exprs))
met_by y es fs s = next_met y es fs s

-- one symbol of a pattern
abbrev pub net_step : NetSym → NetMatching → NetMatching
net_step y net_failed = net_failed
net_step y (net_matching es fs s) = met_by y es fs s

-- a pattern, symbol by symbol
abbrev pub net_matched : List NetSym → NetMatching → NetMatching
net_matched [] m = m
net_matched (y ∷ ys) m = net_matched ys (net_step y m)

-- the trees of the letters at the end, where nothing is left to match
abbrev pub net_ended : NetMatching → Option NetFound
net_ended (net_matching [] [] s) = Some s
net_ended _ = None

-- the trees of the letters where the pattern fits the expressions and networks
abbrev pub net_fitted : List NetSym → List Expression → List (Network Expression) → NetFound
    → Option NetFound
net_fitted pattern es fs s = net_ended (net_matched pattern (net_matching es fs s))

-- the network, or `time`
abbrev pub or_time : Option (Network Expression) → Network Expression
or_time (Some n) = n
or_time None = time

-- the number, or 0
abbrev pub or_zero : Option ℕ → ℕ
or_zero (Some q) = q
or_zero None = 0

-- trees for all letters: a letter that has none stands for `time`, for 0, for `x` or for `Unit`
abbrev pub net_completed : NetFound → NetAssignment
net_completed s = record {
  f = or_time s.f;
  g = or_time s.g;
  h = or_time s.h;
  q = or_zero s.q;
  exprs = completed s.exprs;
}

-- the right side, with the trees that were found
abbrev pub net_built : List NetSym → Option NetFound → Option (Network Expression)
net_built right None = None
net_built right (Some s) = net_filled (net_completed s) right

-- what matching the left side and building the right side makes of a network
abbrev pub net_rewritten : List NetSym → List NetSym → Network Expression
    → Option (Network Expression)
net_rewritten left right n = net_built right (net_fitted left [] (n ∷ []) no_nets_found)
