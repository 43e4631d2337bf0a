use Rattle.std.proofs.Common.{ap, sym, ◌∙◌}
use Rattle.law_patterns.specs.Matching.{todo_of}
use Rattle.law_patterns.specs.NetMatching.{net_going, nets_found_of, nets_todo_of}
use Rattle.law_patterns.proofs.NetSteps.{net_fails-later}
use Rattle.law_patterns.proofs.net_matching.fit_net.Goals as goal

pub returns-then-not-branch : goal.returns-then-not-branch
returns-then-not-branch c =
    net_fails-later _ _ _ _ _ c.loop-sym-test.true
    (ap (λ b. net_going b (todo_of c.meet.new.exprs) (nets_todo_of c.meet.new.nets) (nets_found_of c.meet.new.letters)) (sym c.if-not-branch.true)
    ∙ c.in_ok-meet.ensures) c.loop-sym.invariant
