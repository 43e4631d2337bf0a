use Rattle.std.proofs.Common.{◌≡◌, map, take}
use Rattle.leaf_core.specs.ExpressionView.{expression_of}
use Rattle.net_tree.specs.Network.{arr}
use Rattle.net_tree.specs.NetworkView.{tree_of}
use Rattle.law_rules.proofs.collections.each_arr.Given as goal

abbrev pub invariant-loop-e : goal.invariant-loop-e
invariant-loop-e l = map tree_of l.all.items ≡ map (λ e. arr (expression_of e)) (take l.e-index l.es)
