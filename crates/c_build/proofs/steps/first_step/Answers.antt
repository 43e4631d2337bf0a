use Rattle.sample_core.specs.TypeTree.{pair_ty}
use Rattle.c_file.specs.FunctionC.{shape_at, value, olds}
use Rattle.c_build.specs.Frames.{bounds_in, layout_in}
use Rattle.c_build.proofs.steps.first_step.Goals as goal

pub returns : goal.returns
returns c = λ cs k h.
    let L = layout_in c.args.frame in
    let n = bounds_in c.args.frame in
    let Os = olds cs L in
    let left = c.in_ok-left.ensures cs h in
    let made = c.in_ok-made.ensures cs h in
    let right = c.in_ok-right.ensures cs h in
    let input = c.in_ok-input.ensures (value cs L 0) (value cs L 2) left right in
    let answer = c.in_ok-answer.ensures (value cs L 1) (value cs L 2) made right in
    let lines = rw (c.in_ok-part.ensures cs h).number at
    (c.in_ok-push_first.ensures n L.params Os (shape_at cs c.args.f) (value cs L 0) (value cs L 1) (value cs L 2)
    h.counts made answer) in
    c.in_ok-step.ensures cs (shape_at cs c.args.f)
    (pair_ty (value cs L 0) (value cs L 2)) (pair_ty (value cs L 1) (value cs L 2)) c.new-lines.result.items _ h
    (c.in_ok-kept.ensures cs h) input answer lines
