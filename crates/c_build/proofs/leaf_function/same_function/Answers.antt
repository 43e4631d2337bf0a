use Rattle.std.proofs.Common.{◌≡◌, List, [], ◌∷◌, ◌++◌, map, ap, ◌∙◌}
use Rattle.c_meaning.specs.Object.{CType, truth_type}
use Rattle.c_meaning.specs.Syntax.{Parameter, const_param, Command}
use Rattle.c_meaning.specs.Syntax as C
use Rattle.c_text.specs.declared.tree.Param.{Param}
use Rattle.c_text.specs.Meant.{structs_meant, param_meant, command_meant}
use Rattle.code_fits.specs.Tables.{bound_of}
use Rattle.c_build.specs.Frames.{const_rows}
use Rattle.c_build.proofs.leaf_function.same_function.Goals as goal

pub returns : goal.returns
returns c = λ h.
    let T = structs_meant c.args.known.table.structs.now in
    let n = bound_of c.args.known.types.now c.args.known.bounds.now in
    let p = c.in_ok-param.param in
    let rows = c.in_ok-push_consts.ensures
    ∙ ap (λ (xs : List Param). xs ++ const_rows (p ∷ p ∷ [])) c.new-params.ensures.items in
    let params = ap (map (param_meant T)) rows
    ∙ ap (λ (t : CType). const_param t ∷ const_param t ∷ []) (c.in_ok-param.ensures h) in
    let body = rw c.in_ok-scope.ensures.table at (c.in_ok-body.ensures n c.in_ok-most.ensures) in
    let f : List Parameter → Command → C.Function =
    λ ps b. record { params = ps; result = truth_type; body = b } in
    ap (λ (ps : List Parameter). f ps (command_meant T c.in_ok-body.body)) params ∙ ap (f _) body
