use Rattle.c_forms.specs.Keeping.{keeps_none}
use Rattle.c_file.specs.FunctionC.{olds}
use Rattle.c_build.specs.Frames.{bounds_in, layout_in}
use Rattle.c_build.proofs.steps.arr_step.Goals as goal

pub returns : goal.returns
returns c = λ cs e h.
    let L = layout_in c.args.frame in
    let n = bounds_in c.args.frame in
    let Os = olds cs L in
    let input = c.in_ok-input.ensures cs h in
    let answer = c.in_ok-answer.ensures cs h in
    let lines = c.in_ok-push_arr.ensures n L.params Os L.input L.output h.counts answer in
    c.in_ok-step.ensures cs keeps_none
    L.input L.output c.new-lines.result.items _ h
    (c.in_ok-kept.ensures cs h) input answer lines
