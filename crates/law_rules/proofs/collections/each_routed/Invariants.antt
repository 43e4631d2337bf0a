use Rattle.std.proofs.Common.{◌≡◌, ◌++◌, map, drop}
use Rattle.net_tree.specs.NetworkView.{tree_of}
use Rattle.law_rules.specs.Forward.{routed_each}
use Rattle.law_rules.proofs.collections.each_routed.Given as goal

-- the networks so far, and those that follow, are all
abbrev pub invariant-loop-i : goal.invariant-loop-i
invariant-loop-i l =
    map tree_of l.all.items ++ routed_each l.r l.i (map tree_of (drop l.i l.fs)) ≡ routed_each l.r 0 (map tree_of l.fs)
