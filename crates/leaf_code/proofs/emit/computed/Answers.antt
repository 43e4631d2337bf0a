use Rattle.std.proofs.Common.{◌≡◌, ◌+◌, suc, sym, ap, ◌∙◌, arith}
use Rattle.sample_core.specs.TypeView.{type_of}
use Rattle.leaf_code.specs.CodeOf.{computed}
use Rattle.leaf_code.specs.CodeView.{steps_in}
use Rattle.leaf_code.proofs.Recent.{found-here, found-later, found-none, begins}
use Rattle.leaf_code.proofs.emit.computed.Goals as goal

pub loop-k-init : goal.loop-k-init
loop-k-init c = begins (type_of c.args.ty.now) c.in_ok-key.key c.args.steps.now c.saturating_sub-first.result c.saturating_sub-first.ensures

pub returns-then-is_computed : goal.returns-then-is_computed
returns-then-is_computed c =
    let next : c.loop-k.k + 1 ≡ suc c.loop-k.k = omega arith in
    sym (ap (computed (type_of c.args.ty.now) (steps_in c.args.steps.now)) (sym c.key_of.ensures ∙ c.in_ok-key.was)
    ∙ c.loop-k.invariant
    ∙ found-here (type_of c.args.ty.now) c.in_ok-key.key c.args.steps.now c.loop-k.k (c.loop-k.k + 1) c.index-steps-k.result next c.loop-k-test.true c.index-steps-k.is
    (sym c.is_computed.ensures ∙ c.if-is_computed.true))

pub loop-k-preserved : goal.loop-k-preserved
loop-k-preserved c =
    let next : c.loop-k.k + 1 ≡ suc c.loop-k.k = omega arith in
    c.loop-k.invariant
    ∙ found-later (type_of c.args.ty.now) c.in_ok-key.key c.args.steps.now c.loop-k.k (c.loop-k.k + 1) c.index-steps-k.result next c.loop-k-test.true c.index-steps-k.is
    (sym c.is_computed.ensures ∙ c.if-is_computed.false)

pub returns : goal.returns
returns c =
    sym (ap (computed (type_of c.args.ty.now) (steps_in c.args.steps.now)) (sym c.key_of.ensures ∙ c.in_ok-key.was)
    ∙ c.loop-k.invariant
    ∙ found-none (type_of c.args.ty.now) c.in_ok-key.key c.args.steps.now c.loop-k.k c.loop-k-test.false)
