use Rattle.std.proofs.Common.{arith}
use Rattle.std.proofs.lemmas.Grind.{common_steps}
use Rattle.net_tree.specs.NetworkView.{tree_of}
use Rattle.law_rules.specs.NetworkLaw.{NetworkLaw}
use Rattle.law_rules.proofs.Answered.{found-law, other-side}
use Rattle.law_rules.proofs.apply.backward.Goals as goal

pub returns-then-not-same : goal.returns-then-not-same
returns-then-not-same c =
    let k : NetworkLaw c.args.number c.args.olds (tree_of c.args.given.now) (tree_of c.in-Some.right) = found-law c.args.number c.args.olds (tree_of c.args.given.now) c.in_ok-right.field-0 c.in-Some.right c.in_ok-right.ensures c.in-Some.is in
    other-side c.args.number c.args.olds (tree_of c.args.given.now) (tree_of c.args.net.now) (tree_of c.in-Some.right) k (λ q. absurd (grind (arith, common_steps, q)))
