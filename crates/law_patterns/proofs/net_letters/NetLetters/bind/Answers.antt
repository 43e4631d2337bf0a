use Rattle.net_tree.specs.NetworkView.{tree_of}
use Rattle.law_patterns.proofs.NetSteps.{net_bound-again}
use Rattle.law_patterns.proofs.net_letters.NetLetters.bind.Goals as goal

pub returns-in-Some : goal.returns-in-Some
returns-in-Some c = λ es fs.
    net_bound-again _ (tree_of c.in-Some.earlier.now) _ _ es fs _ _ c.in-Some.ensures c.same_net.ensures
