use Rattle.std.proofs.Common.{map}
use Rattle.sample_core.specs.TypeTree.{list_ty}
use Rattle.c_forms.specs.Members.{members_shape}
use Rattle.c_file.specs.FunctionC.{shape_at, element_type, olds}
use Rattle.c_build.specs.Frames.{bounds_in, layout_in}
use Rattle.c_build.proofs.steps.members_step.Goals as goal

pub returns : goal.returns
returns c = λ cs h.
    let L = layout_in c.args.frame in
    let n = bounds_in c.args.frame in
    let Os = olds cs L in
    let input = c.in_ok-input.ensures cs h in
    let B = element_type L.output in
    let all = c.in_ok-all.ensures cs h in
    let lines = c.in_ok-push_par.ensures n L.params Os (map (shape_at cs) c.args.fs.now) L.input B h.counts all.element all.list all.room in
    c.in_ok-step.ensures cs (members_shape (map (shape_at cs) c.args.fs.now))
    L.input (list_ty B) c.new-lines.result.items _ h
    (c.in_ok-kept.ensures cs h) input all.list lines
