use Rattle.std.proofs.Common.{◌≡◌, suc, arith}
use Rattle.std.proofs.lemmas.Grind.{common_steps}
use Rattle.sample_core.specs.TypeTree.{event_ty}
use Rattle.leaf_code.specs.CodeOf.{carried_type}
use Rattle.c_forms.specs.Keeping.{keeps_cell}
use Rattle.cell_core.specs.declared.form.Form.TheVariants as M
use Rattle.code_fits.specs.Layouts.{kept_type}
use Rattle.c_file.specs.FunctionC.{olds}
use Rattle.c_build.specs.Frames.{bounds_in, layout_in}
use Rattle.c_build.proofs.cell_steps.accum_step.Goals as goal

pub returns : goal.returns
returns c = λ cs e z h.
    let L = layout_in c.args.frame in
    let n = bounds_in c.args.frame in
    let Os = olds cs L in
    let U = carried_type L.input in
    let V = kept_type L in
    let value = c.in_ok-value.ensures cs h in
    let carried = c.in_ok-carried.ensures cs h in
    let input = c.in_ok-input.ensures U carried in
    let passed = c.in_ok-passed.ensures V U value carried in
    let answer = c.in_ok-answer.ensures cs h in
    let next : c.in-Some.next ≡ suc c.args.k = grind (arith, common_steps, c.in-Some.ensures) in
    let lines = rw next at
    (c.in_ok-push_accum.ensures n L.params Os U V h.counts value passed answer) in
    c.in_ok-step.ensures cs (keeps_cell M.AccumBy V)
    (event_ty U) (event_ty V) c.new-lines.result.items _ h
    (c.in_ok-kept.ensures cs h) input answer lines
