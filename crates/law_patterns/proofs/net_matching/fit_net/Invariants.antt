use Rattle.std.proofs.Common.{◌≡◌, drop, ◌∷◌, []}
use Rattle.net_tree.specs.NetworkView.{tree_of}
use Rattle.law_patterns.specs.Matching.{todo_of}
use Rattle.law_patterns.specs.NetMatching.{net_matching, net_matched, no_nets_found, nets_found_of, nets_todo_of}
use Rattle.law_patterns.proofs.net_matching.fit_net.Given as goal

abbrev pub invariant-loop-sym : goal.invariant-loop-sym
invariant-loop-sym l =
    net_matched (drop l.sym-index l.pattern) (net_matching (todo_of l.exprs) (nets_todo_of l.nets) (nets_found_of l.letters))
    ≡ net_matched l.fn.pattern (net_matching [] (tree_of l.fn.net ∷ []) no_nets_found)
