-- Patterns of networks: what they stand for, and the laws that pairs of them make.
use Rattle.std.specs.Prelude.{◌≡◌, ℕ, List, [], ◌∷◌, Option, Some, None}
use Rattle.leaf_core.specs.Expression.{Expression}
use Rattle.net_tree.specs.Network.{Network, arr, seq, first, loop_pre, initial_out, initial_in, i_pre, delay, hold, accum_by, after, repeatedly, time, integral, at_once, delayed, switch, r_switch, k_switch}
use Rattle.law_patterns.specs.declared.net_sym.NetLetter.{NetLetter}
use Rattle.law_patterns.specs.declared.net_sym.NetLetter.TheVariants as L
use Rattle.law_patterns.specs.declared.net_sym.NetSym.{NetSym}
use Rattle.law_patterns.specs.declared.net_sym.NetSym.TheVariants as S
use Rattle.law_patterns.specs.Pattern.{Assignment, around_one, around_two, around_three, put_before}

-- a choice of trees for the letters: networks f, g and h, a number q, and what the letters of
-- expressions stand for
pub record NetAssignment : Type 0 where
  pub f : Network Expression
  pub g : Network Expression
  pub h : Network Expression
  pub q : ℕ
  pub exprs : Assignment

-- the network that a letter stands for
abbrev pub net_chosen : NetAssignment → NetLetter → Network Expression
net_chosen a L.F = a.f
net_chosen a L.G = a.g
net_chosen a L.H = a.h

-- expressions, and networks
pub data Written : Type 0 where
  both : List Expression → List (Network Expression) → Written

-- a form of one expression, around the first; None if there is none
abbrev pub of_leaf : (Expression → Network Expression) → List Expression
    → List (Network Expression) → Option Written
of_leaf form (e ∷ es) fs = Some (both es (form e ∷ fs))
of_leaf form _ fs = None

-- a form of two expressions
abbrev pub of_leaves : (Expression → Expression → Network Expression) → List Expression
    → List (Network Expression) → Option Written
of_leaves form (d ∷ e ∷ es) fs = Some (both es (form d e ∷ fs))
of_leaves form _ fs = None

-- a form of an expression and a network
abbrev pub of_fed : (Expression → Network Expression → Network Expression) → List Expression
    → List (Network Expression) → Option Written
of_fed form (e ∷ es) (f ∷ fs) = Some (both es (form e f ∷ fs))
of_fed form _ _ = None

-- networks beside expressions, if these are there
abbrev pub with_nets : Option (List Expression) → List (Network Expression) → Option Written
with_nets None fs = None
with_nets (Some es) fs = Some (both es fs)

-- expressions beside networks, if these are there
abbrev pub with_exprs : List Expression → Option (List (Network Expression)) → Option Written
with_exprs es None = None
with_exprs es (Some fs) = Some (both es fs)

-- a symbol before expressions and networks, of which a form takes the first ones as its parts; None
-- where there are too few
abbrev pub net_put_before : NetAssignment → NetSym → Written → Option Written
net_put_before a (S.Letter k) (both es fs) = Some (both es (net_chosen a k ∷ fs))
net_put_before a (S.Leaf y) (both es fs) = with_nets (put_before a.exprs y es) fs
net_put_before a S.Arr (both es fs) = of_leaf arr es fs
net_put_before a S.IPre (both es fs) = of_leaf i_pre es fs
net_put_before a S.Hold (both es fs) = of_leaf hold es fs
net_put_before a S.Delay (both es fs) = of_leaf (delay a.q) es fs
net_put_before a S.After (both es fs) = of_leaf (after a.q) es fs
net_put_before a S.Now (both es fs) = of_leaf (after 0) es fs
net_put_before a S.Repeatedly (both es fs) = of_leaf (repeatedly a.q) es fs
net_put_before a S.Time (both es fs) = Some (both es (time ∷ fs))
net_put_before a S.Integral (both es fs) = Some (both es (integral ∷ fs))
net_put_before a S.AccumBy (both es fs) = of_leaves accum_by es fs
net_put_before a S.LoopPre (both es fs) = of_fed loop_pre es fs
net_put_before a S.InitialOut (both es fs) = of_fed initial_out es fs
net_put_before a S.InitialIn (both es fs) = of_fed initial_in es fs
net_put_before a S.First (both es fs) = with_exprs es (around_one first fs)
net_put_before a S.Seq (both es fs) = with_exprs es (around_two seq fs)
net_put_before a S.Switch (both es fs) = with_exprs es (around_two (switch at_once) fs)
net_put_before a S.DSwitch (both es fs) = with_exprs es (around_two (switch delayed) fs)
net_put_before a S.RSwitch (both es fs) = with_exprs es (around_two (r_switch at_once) fs)
net_put_before a S.DrSwitch (both es fs) = with_exprs es (around_two (r_switch delayed) fs)
net_put_before a S.KSwitch (both es fs) = with_exprs es (around_three k_switch fs)

-- a symbol before what is written, if anything is
abbrev pub net_put_before_some : NetAssignment → NetSym → Option Written → Option Written
net_put_before_some a s None = None
net_put_before_some a s (Some w) = net_put_before a s w

-- what some symbols write, one behind the other; None where a form lacks parts
abbrev pub net_written : NetAssignment → List NetSym → Option Written
net_written a [] = Some (both [] [])
net_written a (s ∷ ss) = net_put_before_some a s (net_written a ss)

-- the network of what is one network alone
abbrev pub only_net : Option Written → Option (Network Expression)
only_net (Some (both [] (f ∷ []))) = Some f
only_net _ = None

-- a pattern with its letters filled in; None where it isn't one network
abbrev pub net_filled : NetAssignment → List NetSym → Option (Network Expression)
net_filled a pattern = only_net (net_written a pattern)

-- what a law whose sides are these patterns makes of l is r: one choice of trees for the letters
-- fills the left side to l and the right side to r
pub record NetPatternSides (left right : List NetSym) (l r : Network Expression) : Type 0 where
  pub letters : NetAssignment
  pub left_is : net_filled letters left ≡ Some l
  pub right_is : net_filled letters right ≡ Some r
