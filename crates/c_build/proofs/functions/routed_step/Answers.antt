use Rattle.std.proofs.Common.{refl}
use Rattle.sample_core.specs.TypeTree.{int_ty}
use Rattle.c_file.specs.FunctionC.{callee_at, element_type, shape_at, olds}
use Rattle.c_build.specs.Frames.{bounds_in, layout_in}
use Rattle.c_build.proofs.functions.routed_step.Goals as goal

pub returns : goal.returns
returns c = λ cs h.
    let L = layout_in c.args.frame in
    let n = bounds_in c.args.frame in
    let Os = olds cs L in
    let input = c.in_ok-input.ensures cs h in
    let B = element_type L.output in
    let numbered = c.in_ok-numbered.ensures L.input int_ty input refl in
    let answer = c.in_ok-answer.ensures cs h in
    let lines = rw (c.in_ok-part.ensures cs h).number at
    (c.in_ok-push_routed.ensures n L.params Os (shape_at cs c.args.f) L.input (callee_at cs c.args.f).input B
    h.counts numbered (c.in_ok-part.ensures cs h).input answer) in
    c.in_ok-step.ensures cs (shape_at cs c.args.f)
    L.input B c.new-lines.result.items _ h
    (c.in_ok-kept.ensures cs h) input answer lines
