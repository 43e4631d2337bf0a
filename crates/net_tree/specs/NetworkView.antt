-- What the code's networks are as trees.
use Rattle.std.specs.Prelude.{List, [], ◌∷◌}
use Rattle.leaf_core.specs.Expression.{Expression}
use Rattle.leaf_core.specs.ExpressionView.{expression_of}
use Rattle.leaf_core.specs.declared.expr.Expr.{Expr}
use Rattle.net_tree.specs.Network.{Network, Networks, arr, seq, first, par, loop_pre, initial_out, initial_in, i_pre, delay, hold, accum_by, after, repeatedly, time, integral, at_once, delayed, switch, r_switch, rp_switch, k_switch, p_switch, old, no_members, and_member, map_network, map_networks}
use Rattle.net_tree.specs.declared.net.Net.{Net}
use Rattle.net_tree.specs.declared.net.Net.TheVariants as V

-- the network that a `Net` over leaves of any type is
abbrev pub network_of : {L : Type 0} → Net L → Network L
network_of (V.Arr e) = arr e
network_of (V.Seq f g) = seq f g
network_of (V.First f) = first f
network_of (V.Par fs) = par fs
network_of (V.LoopPre c f) = loop_pre c f
network_of (V.IPre c) = i_pre c
network_of (V.Delay q c) = delay q c
network_of (V.Hold c) = hold c
network_of (V.AccumBy g z) = accum_by g z
network_of (V.After q c) = after q c
network_of (V.Repeatedly q c) = repeatedly q c
network_of V.Time = time
network_of V.Integral = integral
network_of (V.Switch f t) = switch at_once f t
network_of (V.DSwitch f t) = switch delayed f t
network_of (V.RSwitch f t) = r_switch at_once f t
network_of (V.KSwitch f e t) = k_switch f e t
network_of (V.PSwitch r fs e t) = p_switch r fs e t
network_of (V.Old k) = old k
network_of (V.InitialOut c f) = initial_out c f
network_of (V.InitialIn c f) = initial_in c f
network_of (V.DrSwitch f t) = r_switch delayed f t
network_of (V.RpSwitch fs m t) = rp_switch fs m t

-- the members that some `Net`s are
abbrev pub members_of : {L : Type 0} → List (Net L) → Networks L
members_of [] = no_members
members_of (f ∷ fs) = and_member (network_of f) (members_of fs)

-- the network that a `Net` of expressions is
abbrev pub tree_of : Net Expr → Network Expression
tree_of net = map_network expression_of (network_of net)

-- the network of expressions that a network of `Expr`s inside a `Net` is
abbrev pub tree : Network Expr → Network Expression
tree f = map_network expression_of f

-- the members of expressions that members of `Expr`s are
abbrev pub trees : Networks Expr → Networks Expression
trees fs = map_networks expression_of fs
