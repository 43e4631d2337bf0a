use Rattle.std.proofs.Common.{List, [], ◌∷◌, ap, map, ◌∙◌}
use Rattle.c_meaning.specs.Object.{CType}
use Rattle.c_meaning.specs.Syntax.{Parameter, pointer_param}
use Rattle.c_text.specs.declared.tree.Function as V
use Rattle.c_text.specs.Meant.{param_meant}
use Rattle.c_file.specs.ProgramC.{init_function}
use Rattle.c_build.specs.Scopes.{table}
use Rattle.c_build.proofs.Calls.{function_same}
use Rattle.c_build.proofs.ends.init_function.Goals as goal

pub returns : goal.returns
returns c = λ n S e.
    let T = table c.args.scope in
    let f : V.Function =
    record { params = c.in_ok-params.params; result = c.in_ok-result.result; body = c.in_ok-body.body } in
    let params = ap (map (param_meant T)) c.in_ok-params.ensures.items
    ∙ ap (λ (t : CType). pointer_param t ∷ []) e in
    function_same T f (init_function n S) params (c.in_ok-result.ensures n) (c.in_ok-body.ensures n S e)
