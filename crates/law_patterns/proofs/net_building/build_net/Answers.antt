use Rattle.std.proofs.Common.{ap, sym, ◌∙◌, map}
use Rattle.net_tree.specs.NetworkView.{tree}
use Rattle.law_patterns.specs.NetBuilding.{both_there}
use Rattle.law_patterns.specs.NetPattern.{both}
use Rattle.law_patterns.proofs.NetSteps.{net_lacks-parts}
use Rattle.law_patterns.proofs.net_building.build_net.Goals as goal

pub returns-then-not-branch : goal.returns-then-not-branch
returns-then-not-branch c =
    net_lacks-parts _ _ c.loop-left.left _ (both c.loop-left.exprs (map tree c.loop-left.nets)) c.loop-left-test.true
    c.loop-left.invariant.0 c.loop-left.invariant.1
    (ap (λ b. both_there b c.make.new.exprs (map tree c.make.new.nets)) (sym c.if-not-branch.true) ∙ c.in_ok-make.ensures)
