use Rattle.std.proofs.Common.{◌≡◌, ◌≤◌, ◌++◌, List, length, take, drop, sym, ap, ◌∙◌, arith}
use Rattle.std.proofs.lemmas.List.{take-append-drop, length-take-le}
use Rattle.sample_core.specs.TypeTree.{TypeTree}
use Rattle.c_meaning.specs.Syntax as C
use Rattle.c_forms.specs.Keeping.{Shape}
use Rattle.c_forms.specs.Standing.{stepping}
use Rattle.c_forms.specs.Freezing.{old_function}
use Rattle.c_file.specs.FunctionC.{olds, shape_at, number_at}
use Rattle.c_build.specs.Frames.{bounds_in, layout_in}
use Rattle.c_build.specs.Scopes.{Counts}
use Rattle.c_build.proofs.switch_steps.old_step.Goals as goal

pub returns : goal.returns
returns c = λ cs k h.
    let L = layout_in c.args.frame in
    let n = bounds_in c.args.frame in
    let Ps = L.params in
    let Os = olds cs L in
    let a = c.args.a in
    let b = c.args.b in
    let e : take a Ps ++ drop a Ps ≡ Ps = take-append-drop a Ps in
    let f : take b Os ++ drop b Os ≡ Os = take-append-drop b Os in
    let counts : Counts c.args.frame.scope (take a Ps ++ drop a Ps) (take b Os ++ drop b Os) = record {
      params = ap length e ∙ h.counts.params;
      olds = ap length f ∙ h.counts.olds;
    } in
    let few_params : a ≤ length Ps = omega (arith, h.counts.params) in
    let few_olds : b ≤ length Os = omega (arith, h.counts.olds) in
    let S = shape_at cs c.args.f in
    let answer = c.in_ok-answer.ensures cs h in
    let lines = rw (c.in_ok-part.ensures cs h).number at
    (c.in_ok-push_old.ensures n (take a Ps) (drop a Ps) (take b Os) (drop b Os) S L.input L.output counts answer
    (length-take-le a Ps few_params) (length-take-le b Os few_olds)) in
    let d : C.Command =
    (old_function n (take a Ps) (drop a Ps) (take b Os) (drop b Os) S L.input L.output c.args.i (number_at cs c.args.f)).body in
    c.in_ok-step.ensures cs S L.input L.output c.new-lines.result.items d h (c.in_ok-kept.ensures cs h) (c.in_ok-input.ensures cs h) answer lines
    ∙ (ap (λ (Xs : List TypeTree). stepping n Xs Os S L.input L.output d) (sym e)
    ∙ ap (λ (Xs : List Shape). stepping n (take a Ps ++ drop a Ps) Xs S L.input L.output d) (sym f))
