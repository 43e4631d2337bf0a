use Rattle.std.proofs.Common.{◌≡◌, map, take}
use Rattle.net_tree.specs.Network.{seq}
use Rattle.net_tree.specs.NetworkView.{tree, tree_of}
use Rattle.law_rules.proofs.collections.each_behind.Given as goal

abbrev pub invariant-loop-f : goal.invariant-loop-f
invariant-loop-f l = map tree_of l.all.items ≡ map (λ f. seq (tree l.h) (tree_of f)) (take l.f-index l.fs)
