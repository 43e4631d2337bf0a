use Rattle.std.proofs.Common.{arith}
use Rattle.std.proofs.lemmas.Grind.{common_steps}
use Rattle.net_tree.specs.NetworkView.{tree_of}
use Rattle.net_syntax.proofs.replacing.+replaced_below.Goals as goal

pub returns-in_default : goal.returns-in_default
returns-in_default t c = grind (arith, common_steps, c.whole.ensures (tree_of c.args.net.now))
