use Rattle.c_forms.specs.Keeping.{keeps_none}
use Rattle.c_file.specs.FunctionC.{olds}
use Rattle.c_build.specs.Frames.{bounds_in, layout_in}
use Rattle.c_build.proofs.steps.same_step.Goals as goal

pub returns : goal.returns
returns c = λ cs k h.
    let L = layout_in c.args.frame in
    let n = bounds_in c.args.frame in
    let Os = olds cs L in
    let input = c.in_ok-input.ensures cs h in
    let lines = c.in_ok-push_same.ensures n L.params Os L.input in
    c.in_ok-step.ensures cs keeps_none
    L.input L.input c.new-lines.result.items _ h
    (c.in_ok-kept.ensures cs h) input input lines
