use Rattle.std.proofs.Common.{ap, ◌∙◌}
use Rattle.sample_core.specs.TypeTree.{event_ty}
use Rattle.leaf_code.specs.CodeOf.{carried_type, left_type, right_type}
use Rattle.c_leaf.specs.Representing.{c_type}
use Rattle.c_build.specs.Frames.{bounds_in, layout_in}
use Rattle.c_build.proofs.frame.Frame.chosen_input.Goals as goal

pub returns : goal.returns
returns c = λ cs h.
    let n = bounds_in c.args.self in
    let A = (layout_in c.args.self).input in
    let input = c.in_ok-input.ensures cs h ∙ ap (c_type n) (c.in_ok-left.ensures h.typed) in
    let value = c.in_ok-value.ensures cs h
    ∙ ap (c_type n) (c.in_ok-k.ensures h.typed ∙ ap carried_type (c.in_ok-right.ensures h.typed)) in
    c.in_ok-pair.ensures (left_type A) (event_ty (carried_type (right_type A))) input
    (c.in_ok-event.ensures (carried_type (right_type A)) value)
