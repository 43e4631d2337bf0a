-- Each network inside a network is smaller than it.
use Rattle.std.specs.Prelude.{◌≤◌, max, List, [], ◌∷◌}
use Rattle.std.proofs.Common.{arith}
use denote.Param.Weighed.{most}
use Rattle.net_tree.specs.Network.{network_size, networks_size}
use Rattle.net_tree.specs.declared.net.Net.{Net}
use Rattle.net_tree.specs.declared.net.Net.TheVariants as V
use Rattle.net_tree.specs.declared.net.Members.TheDeep.{deep-Net}
use Rattle.net_tree.specs.NetworkView.{network_of, members_of}

-- a network's depth in the code is at most its size
pub depth_le : {L : Type 0} (n : Net L) → max (deep-Net L n) 0 ≤ network_size (network_of n)
depth_le {L} (V.Arr e) = omega arith
depth_le {L} (V.Seq f g) = omega arith
depth_le {L} (V.First f) = omega arith
depth_le {L} (V.Par fs) = omega arith
depth_le {L} (V.LoopPre c f) = omega arith
depth_le {L} (V.IPre c) = omega arith
depth_le {L} (V.Delay q c) = omega arith
depth_le {L} (V.Hold c) = omega arith
depth_le {L} (V.AccumBy g z) = omega arith
depth_le {L} (V.After q c) = omega arith
depth_le {L} (V.Repeatedly q c) = omega arith
depth_le {L} V.Time = omega arith
depth_le {L} V.Integral = omega arith
depth_le {L} (V.Switch f t) = omega arith
depth_le {L} (V.DSwitch f t) = omega arith
depth_le {L} (V.RSwitch f t) = omega arith
depth_le {L} (V.KSwitch f e t) = omega arith
depth_le {L} (V.PSwitch r fs e t) = omega arith
depth_le {L} (V.Old k) = omega arith
depth_le {L} (V.InitialOut c f) = omega arith
depth_le {L} (V.InitialIn c f) = omega arith
depth_le {L} (V.DrSwitch f t) = omega arith
depth_le {L} (V.RpSwitch fs m t) = omega arith

-- each member's depth in the code is at most the size of all members
pub depths_le : {L : Type 0} (ns : List (Net L))
    → max (most (deep-Net L) ns) 0 ≤ networks_size (members_of ns)
depths_le {L} [] = omega arith
depths_le {L} (n ∷ ns) = omega (arith, depth_le n, depths_le ns)
