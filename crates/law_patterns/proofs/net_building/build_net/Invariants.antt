use Rattle.std.proofs.Common.{◌≡◌, ◌≤◌, drop, length, map, Some}
use Rattle.net_tree.specs.NetworkView.{tree}
use Rattle.law_patterns.specs.NetPattern.{both, net_written}
use Rattle.law_patterns.specs.NetMatching.{net_completed, nets_found_of}
use Rattle.law_patterns.proofs.net_building.build_net.Given as goal

abbrev pub invariant-loop-left : goal.invariant-loop-left
invariant-loop-left l =
    (l.left ≤ length l.pattern)
    × (net_written (net_completed (nets_found_of l.letters)) (drop l.left l.pattern) ≡ Some (both l.exprs (map tree l.nets)))

abbrev pub decreases-loop-left : goal.decreases-loop-left
decreases-loop-left l = l.left
