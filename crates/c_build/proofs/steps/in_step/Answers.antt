use Rattle.c_file.specs.FunctionC.{shape_at, olds}
use Rattle.c_build.specs.Frames.{bounds_in, layout_in}
use Rattle.c_build.proofs.steps.in_step.Goals as goal

pub returns : goal.returns
returns c = λ cs e h.
    let L = layout_in c.args.frame in
    let n = bounds_in c.args.frame in
    let Os = olds cs L in
    let input = c.in_ok-input.ensures cs h in
    let answer = c.in_ok-answer.ensures cs h in
    let lines = rw (c.in_ok-part.ensures cs h).number at
    (c.in_ok-push_initial_in.ensures n L.params Os (shape_at cs c.args.f) L.input L.output h.counts input answer) in
    c.in_ok-step.ensures cs (shape_at cs c.args.f)
    L.input L.output c.new-lines.result.items _ h
    (c.in_ok-kept.ensures cs h) input answer lines
