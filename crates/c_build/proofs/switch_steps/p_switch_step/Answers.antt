use Rattle.std.proofs.Common.{◌≡◌, ◌+◌, ℕ, suc, Some, length, map, sym, ap, ◌∙◌, arith}
use Rattle.std.proofs.lemmas.List.{length-map}
use Rattle.c_forms.specs.Keeping.{keeps_both, keeps_frozen, keeps_mode}
use Rattle.c_forms.specs.Members.{members_shape}
use Rattle.code_fits.specs.Layouts.{kept_type}
use Rattle.c_file.specs.FunctionC.{shape_at, olds}
use Rattle.c_build.specs.Frames.{bounds_in, layout_in}
use Rattle.c_build.proofs.switch_steps.p_switch_step.Goals as goal

pub returns : goal.returns
returns c = λ cs h.
    let L = layout_in c.args.frame in
    let n = bounds_in c.args.frame in
    let Os = olds cs L in
    let V = kept_type L in
    let Ss = map (shape_at cs) c.args.fs.now in
    let input = c.in_ok-input.ensures cs h in
    let all = c.in_ok-switch.ensures.numbers cs h in
    let many : length c.args.fs.now ≡ length Ss = sym (length-map c.args.fs.now (shape_at cs)) in
    let next : c.args.k + length c.args.fs.now + 1 ≡ suc (c.args.k + length c.args.fs.now) = omega arith in
    let members = c.in_ok-switch.ensures.members ∙ ap (λ (m : ℕ). Some m) many in
    let front = all.front ∙ next in
    let lines = rw (members, front, all.watcher, all.taker) at
    (c.in_ok-push_freezing.ensures n L.params Os (members_shape Ss) (shape_at cs c.args.e) (shape_at cs c.args.t) L.input L.output V
    h.counts all.answer all.both all.event) in
    c.in_ok-step.ensures cs (keeps_mode V (keeps_both (members_shape Ss) (shape_at cs c.args.e))
    (keeps_frozen (members_shape Ss) (shape_at cs c.args.t)))
    L.input L.output c.new-lines.result.items _ h
    (c.in_ok-kept.ensures cs h) input all.answer lines
