use Rattle.std.proofs.Common.{ap, ◌∙◌, map, arith}
use Rattle.state_core.specs.StateView.{frozen_of}
use Rattle.state_core.proofs.Choices.{passed-over, picked, picked-all}
use Rattle.state_core.proofs.choosing.select.Goals as goal
use Rattle.state_core.proofs.choosing.select.Goals.{in-Some+in_ok-frozen+in_ok-push, in_default}

pub returns-then-len-eq-MOST_MEMBERS : goal.returns-then-len-eq-MOST_MEMBERS
returns-then-len-eq-MOST_MEMBERS c =
    picked-all c.args.all.now c.loop-number.chosen.items c.elements-number-items.result.now c.loop-number.number-index _ c.elements-number-items.ensures
    (omega (arith, c.loop-number.chosen.ok.0, c.len.ensures, c.if-len-eq-MOST_MEMBERS.true)) c.loop-number.invariant

pub loop-number-preserved : goal.loop-number-preserved
loop-number-preserved c = elim c.match-named.branch [
  | in-Some+in_ok-frozen+in_ok-push w ↦
      picked c.args.all.now c.loop-number.chosen.items c.match-named.chosen.items w.in-Some.frozen.now w.in_ok-frozen.frozen c.elements-number-items.result.now
      c.loop-number.number-index c.number-item.result c.loop-number-test.true c.number-item.is w.in-Some.ensures w.in_ok-frozen.ensures
      (ap (λ v. v.items) w.chosen-is ∙ w.in_ok-push.ensures.items) (λ e. c.if-len-eq-MOST_MEMBERS.false (omega (arith, e, c.loop-number.chosen.ok.0, c.len.ensures))) c.loop-number.invariant
  | in_default w ↦ passed-over c.args.all.now c.match-named.chosen.items c.elements-number-items.result.now c.loop-number.number-index c.number-item.result
      c.loop-number-test.true c.number-item.is w.in_default.ensures (ap (λ v. map frozen_of v.items) w.chosen-is ∙ c.loop-number.invariant)
]
