use Rattle.c_forms.specs.Keeping.{keeps_both}
use Rattle.c_file.specs.FunctionC.{shape_at, value, olds}
use Rattle.c_build.specs.Frames.{bounds_in, layout_in}
use Rattle.c_build.proofs.steps.seq_step.Goals as goal

pub returns : goal.returns
returns c = λ cs k h.
    let L = layout_in c.args.frame in
    let n = bounds_in c.args.frame in
    let Os = olds cs L in
    let input = c.in_ok-input.ensures cs h in
    let answer = c.in_ok-answer.ensures cs h in
    let lines = rw ((c.in_ok-one.ensures cs h).number, (c.in_ok-other.ensures cs h).number) at
    (c.in_ok-push_seq.ensures n L.params Os (shape_at cs c.args.f) (shape_at cs c.args.g) L.input (value cs L 0) L.output
    h.counts (c.in_ok-between.ensures cs h) answer) in
    c.in_ok-step.ensures cs (keeps_both (shape_at cs c.args.f) (shape_at cs c.args.g))
    L.input L.output c.new-lines.result.items _ h
    (c.in_ok-kept.ensures cs h) input answer lines
