use Rattle.std.proofs.Common.{◌≡◌, List, map, ap, ◌∙◌}
use Rattle.sample_core.specs.TypeTree.{TypeTree}
use Rattle.sample_core.specs.TypeView.{type_of}
use Rattle.leaf_code.specs.Running.{LeafSteps}
use Rattle.leaf_code.specs.CodeView.{steps_in}
use Rattle.leaf_code.specs.declared.operation.Step.{Step}
use Rattle.c_leaf.specs.LeafC.{constant_function, leaf_function}
use Rattle.c_file.specs.Compared.{number_among}
use Rattle.c_build.specs.Frames.{bounds_in}
use Rattle.c_build.proofs.leaf_function.function_of_leaf.Goals as goal

pub returns-in-Constant : goal.returns-in-Constant
returns-in-Constant c = λ h e.
    let n = bounds_in c.args.frame in
    let m = number_among (map type_of c.args.compared.now) in
    let Ps = map type_of c.args.params.now in
    let same = ap (λ (xs : List Step). (steps_in xs, c.in_ok-code.code.answer)) c.as_slice.ensures.value
    ∙ c.in_ok-code.ensures in
    rw c.in-Constant.is
    (c.in_ok-function-in-Constant.ensures Ps h (rw c.in-Constant.is at c.in_ok-input.ensures) e
    ∙ ap (λ (s : LeafSteps). constant_function n m Ps s) (rw c.in-Constant.is at same))

pub returns : goal.returns
returns c = λ h e.
    let n = bounds_in c.args.frame in
    let m = number_among (map type_of c.args.compared.now) in
    let Ps = map type_of c.args.params.now in
    let same = ap (λ (xs : List Step). (steps_in xs, c.in_ok-code.code.answer)) c.as_slice.ensures.value
    ∙ c.in_ok-code.ensures in
    let input = rw c.in-AtInput.is at c.in_ok-input.ensures in
    rw c.in-AtInput.is
    (c.in_ok-function-in-AtInput.ensures Ps h e
    ∙ (ap (λ (A : TypeTree). leaf_function n m Ps A (steps_in c.as_slice.result.now, c.in_ok-code.code.answer)) input
    ∙ ap (λ (s : LeafSteps). leaf_function n m Ps (type_of c.in-AtInput.field-0) s) (rw c.in-AtInput.is at same)))
