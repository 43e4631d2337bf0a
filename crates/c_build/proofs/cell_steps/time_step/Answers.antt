use Rattle.std.proofs.Common.{refl}
use Rattle.sample_core.specs.TypeTree.{int_ty}
use Rattle.c_forms.specs.Keeping.{keeps_cell}
use Rattle.cell_core.specs.declared.form.Form.TheVariants as M
use Rattle.c_file.specs.FunctionC.{olds}
use Rattle.c_build.specs.Frames.{bounds_in, layout_in}
use Rattle.c_build.proofs.cell_steps.time_step.Goals as goal

pub returns : goal.returns
returns c = λ cs k h.
    let L = layout_in c.args.frame in
    let n = bounds_in c.args.frame in
    let Os = olds cs L in
    let input = c.in_ok-input.ensures cs h in
    let lines = c.in_ok-push_time.ensures n L.params Os int_ty L.input in
    c.in_ok-step.ensures cs (keeps_cell M.Time int_ty)
    L.input int_ty c.new-lines.result.items _ h
    (c.in_ok-kept.ensures cs h) input refl lines
