use Rattle.std.proofs.Common.{ap, sym, ◌∙◌}
use Rattle.law_patterns.specs.Matching.{going, found_of, todo_of}
use Rattle.law_patterns.proofs.Steps.{fails-later}
use Rattle.law_patterns.proofs.matching.fit.Goals as goal

pub returns-then-not-branch : goal.returns-then-not-branch
returns-then-not-branch c =
    fails-later _ _ _ _ _ c.loop-sym-test.true
    (ap (λ b. going b (todo_of c.meet.new.todo) (found_of c.meet.new.letters)) (sym c.if-not-branch.true)
    ∙ c.in_ok-meet.ensures) c.loop-sym.invariant
