use Rattle.c_forms.specs.Keeping.{keeps_cell}
use Rattle.cell_core.specs.declared.form.Form.TheVariants as M
use Rattle.code_fits.specs.Layouts.{kept_type}
use Rattle.sample_core.specs.TypeTree.{event_ty}
use Rattle.c_file.specs.FunctionC.{olds}
use Rattle.c_build.specs.Frames.{bounds_in, layout_in}
use Rattle.c_build.proofs.cell_steps.repeatedly_step.Goals as goal

pub returns : goal.returns
returns c = λ cs e h.
    let L = layout_in c.args.frame in
    let n = bounds_in c.args.frame in
    let Os = olds cs L in
    let V = kept_type L in
    let value = c.in_ok-value.ensures cs h in
    let input = c.in_ok-input.ensures cs h in
    let answer = c.in_ok-answer.ensures cs h in
    let lines = c.in_ok-push_repeatedly.ensures n L.params Os V L.input h.counts value answer in
    c.in_ok-step.ensures cs (keeps_cell (M.Repeatedly c.args.q) V)
    L.input (event_ty V) c.new-lines.result.items _ h
    (c.in_ok-kept.ensures cs h) input answer lines
