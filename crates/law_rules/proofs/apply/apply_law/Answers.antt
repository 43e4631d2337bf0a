use Rattle.std.proofs.Common.{ap}
use Rattle.net_tree.specs.NetworkView.{tree_of}
use Rattle.law_patterns.specs.NetMatching.{held_network}
use Rattle.law_rules.proofs.Answered.{forward-answered, backward-answered}
use Rattle.law_rules.proofs.apply.apply_law.Goals as goal

pub returns-in-Forward-None : goal.returns-in-Forward-None
returns-in-Forward-None c =
    forward-answered c.args.law c.args.direction c.in-L.number (tree_of c.args.net.now) (held_network c.args.given) c.args.olds c.forward.result c.in-L.is c.in-Forward-None.is-0
    (ap held_network c.in-Forward-None.is-1) c.forward.ensures

pub returns-in-Backward-Some : goal.returns-in-Backward-Some
returns-in-Backward-Some c =
    backward-answered c.args.law c.args.direction c.in-L.number (tree_of c.args.net.now) (tree_of c.in-Backward-Some.given.now) (held_network c.args.given) c.args.olds c.backward.result c.in-L.is
    c.in-Backward-Some.is-0 (ap held_network c.in-Backward-Some.is-1) c.backward.ensures
