use Rattle.c_forms.specs.Keeping.{keeps_mode}
use Rattle.code_fits.specs.Layouts.{kept_type}
use Rattle.c_file.specs.FunctionC.{shape_at, olds}
use Rattle.c_build.specs.Frames.{bounds_in, layout_in}
use Rattle.c_build.proofs.switch_steps.switch_step.Goals as goal

pub returns : goal.returns
returns c = λ cs h.
    let L = layout_in c.args.frame in
    let n = bounds_in c.args.frame in
    let Os = olds cs L in
    let V = kept_type L in
    let input = c.in_ok-input.ensures cs h in
    let types = c.in_ok-types.ensures cs h in
    let lines = rw ((c.in_ok-front.ensures cs h).number, (c.in_ok-taker.ensures cs h).number) at
    (c.in_ok-push_switch.ensures n L.params Os (shape_at cs c.args.f) (shape_at cs c.args.t) L.input L.output V
    h.counts types.beside types.answer) in
    c.in_ok-step.ensures cs (keeps_mode (kept_type L) (shape_at cs c.args.f) (shape_at cs c.args.t))
    L.input L.output c.new-lines.result.items _ h
    (c.in_ok-kept.ensures cs h) input types.answer lines
