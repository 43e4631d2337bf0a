use Rattle.std.proofs.Common.{◌≡◌, ℕ, List, [], ◌∷◌, ◌++◌, ◌+◌, pos, map, length, ap, ◌∙◌}
use Rattle.sample_core.specs.TypeTree.{TypeTree, unit_ty}
use Rattle.sample_core.specs.TypeView.{type_of}
use Rattle.leaf_code.specs.CodeOf.{type_at}
use Rattle.leaf_code.specs.CodeView.{steps_in}
use Rattle.c_meaning.specs.Object.{CType, number_type, u8}
use Rattle.c_meaning.specs.Syntax.{Parameter, const_param, Command, sequence, define, literal, answer, local}
use Rattle.c_meaning.specs.Syntax as C
use Rattle.c_text.specs.declared.tree.Param.{Param}
use Rattle.c_text.specs.Meant.{type_meant, param_meant, command_meant}
use Rattle.c_leaf.specs.Representing.{c_type}
use Rattle.c_leaf.specs.LeafC.{const_params, steps_command}
use Rattle.c_build.specs.Scopes.{table}
use Rattle.c_build.specs.Frames.{bounds_in, const_rows}
use Rattle.c_build.specs.LeafLines.{compared_in}
use Rattle.c_build.proofs.LeafParams.{as_many, with_input}
use Rattle.c_build.proofs.leaf_function.leaf_function.Goals as goal

pub returns : goal.returns
returns c = λ Ps h e.
    let L = c.args.lines in
    let T = table L.frame.scope in
    let n = bounds_in L.frame in
    let As = L.frame.scope.params.now in
    let A = type_of L.input.now in
    let ss = steps_in L.steps.now in
    let k = c.args.answer in
    let rows = c.in_ok-push_consts-2.ensures
    ∙ (ap (λ (xs : List Param). xs ++ const_rows (c.in_ok-input.input ∷ []))
    (c.in_ok-push_consts.ensures ∙ ap (λ (xs : List Param). xs ++ const_rows As) c.new-params.ensures.items)) in
    let params = ap (map (param_meant T)) rows
    ∙ with_input T As n Ps c.in_ok-input.input A e (c.in_ok-input.ensures h) in
    let ps : List Parameter = const_params n Ps ++ const_param (c_type n A) ∷ [] in
    let t : CType = c_type n (type_at A ss k) in
    let lines_of : ℕ → Command =
    λ m. sequence (steps_command n (compared_in L) m (type_at A ss) ss) (answer (local (m + k))) in
    let body = c.in_ok-body.ensures h ∙ ap lines_of (as_many T As n Ps e) in
    let f : List Parameter → CType → Command → C.Function =
    λ xs y b. record { params = xs; result = y; body = b } in
    ap (λ (xs : List Parameter). f xs (type_meant T c.in_ok-result.result) (command_meant T c.in_ok-body.body)) params
    ∙ (ap (λ (y : CType). f ps y (command_meant T c.in_ok-body.body)) (c.in_ok-result.ensures h) ∙ ap (f ps t) body)
