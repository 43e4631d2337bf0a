use Rattle.net_tree.specs.NetworkView.{tree_of}
use Rattle.law_patterns.proofs.NetSides.{net_rewritten-answers}
use Rattle.law_patterns.proofs.rewrite.rewrite_net.Goals as goal

pub returns : goal.returns
returns c =
    net_rewritten-answers c.args.left.now c.args.right.now (tree_of c.args.net.now) c.net_rewritten.result c.net_rewritten.ensures
