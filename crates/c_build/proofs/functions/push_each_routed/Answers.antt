use Rattle.std.proofs.Common.{◌≡◌, length, sym, ◌∙◌, arith}
use Rattle.c_build.proofs.FunctionRows.{next_routed, no_routed}
use Rattle.c_build.proofs.functions.push_each_routed.Goals as goal

pub loop-i-preserved : goal.loop-i-preserved
loop-i-preserved c = λ cs h.
    rw c.in_ok-push.ensures.items
    (next_routed c.args.frame cs c.args.k c.loop-i.i c.args.fs.now c.loop-i.functions.items c.in_ok-step.step
    c.loop-i-test.true (c.in_ok-step.ensures cs h)
    ∙ c.loop-i.invariant cs h)

pub returns : goal.returns
returns c = λ cs h.
    let e : c.loop-i.i ≡ length c.args.fs.now = omega arith in
    sym (no_routed c.args.frame cs c.args.k c.loop-i.i c.args.fs.now c.loop-i.functions.items e)
    ∙ c.loop-i.invariant cs h
