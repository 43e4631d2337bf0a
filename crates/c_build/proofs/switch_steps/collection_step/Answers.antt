use Rattle.std.proofs.Common.{map}
use Rattle.sample_core.specs.TypeTree.{event_ty, list_ty, pair_ty}
use Rattle.leaf_code.specs.CodeOf.{carried_type, left_type, right_type}
use Rattle.c_forms.specs.Keeping.{keeps_collection}
use Rattle.c_forms.specs.Members.{members_shape}
use Rattle.code_fits.specs.Layouts.{kept_type}
use Rattle.c_file.specs.FunctionC.{element_type, shape_at, olds}
use Rattle.c_build.specs.Frames.{bounds_in, layout_in}
use Rattle.c_build.proofs.switch_steps.collection_step.Goals as goal

pub returns : goal.returns
returns c = λ cs h.
    let L = layout_in c.args.frame in
    let n = bounds_in c.args.frame in
    let Os = olds cs L in
    let V = kept_type L in
    let A = left_type L.input in
    let B = element_type L.output in
    let C = carried_type (right_type L.input) in
    let Ss = map (shape_at cs) c.args.fs.now in
    let all = c.in_ok-all.ensures cs h in
    let input = c.in_ok-input.ensures cs h in
    let lines = rw (c.as_slice.ensures.value, c.in_ok-js.ensures cs h, all.chooser, all.taker) at
    (c.in_ok-push_collection.ensures n L.params Os Ss (shape_at cs c.args.t) A B V C
    h.counts all.answer all.answers all.chosen all.named all.values) in
    c.in_ok-step.ensures cs (keeps_collection V (members_shape Ss) (shape_at cs c.args.t))
    (pair_ty A (event_ty C)) (list_ty B) c.new-lines.result.items _ h
    (c.in_ok-kept.ensures cs h) input all.answers lines
