-- How large the code's networks are: by these a recursion over them is seen to end.
use Rattle.std.proofs.Common.{ℕ, List}
use Rattle.net_tree.specs.Network.{network_size, networks_size}
use Rattle.net_tree.specs.declared.net.Net.{Net}
use Rattle.net_tree.specs.NetworkView.{network_of, members_of}

-- the networks inside a network, itself counted
abbrev pub net_size : {L : Type 0} → Net L → ℕ
net_size net = network_size (network_of net)

-- the networks inside members, and the lists of these
abbrev pub nets_size : {L : Type 0} → List (Net L) → ℕ
nets_size fs = networks_size (members_of fs)
