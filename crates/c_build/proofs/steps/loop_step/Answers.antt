use Rattle.c_forms.specs.Keeping.{keeps_fed}
use Rattle.code_fits.specs.Layouts.{kept_type}
use Rattle.c_file.specs.FunctionC.{shape_at, olds}
use Rattle.c_build.specs.Frames.{bounds_in, layout_in}
use Rattle.c_build.proofs.steps.loop_step.Goals as goal

pub returns : goal.returns
returns c = λ cs e h.
    let L = layout_in c.args.frame in
    let n = bounds_in c.args.frame in
    let Os = olds cs L in
    let input = c.in_ok-input.ensures cs h in
    let answer = c.in_ok-answer.ensures cs h in
    let value = c.in_ok-value.ensures cs h in
    let V = kept_type L in
    let passed = c.in_ok-pair.ensures L.input V input value in
    let given = c.in_ok-pair-2.ensures L.output V answer value in
    let lines = rw (c.in_ok-part.ensures cs h).number at
    (c.in_ok-push_loop.ensures n L.params Os (shape_at cs c.args.f) L.input L.output V h.counts value passed given) in
    c.in_ok-step.ensures cs (keeps_fed (kept_type L) (shape_at cs c.args.f))
    L.input L.output c.new-lines.result.items _ h
    (c.in_ok-kept.ensures cs h) input answer lines
