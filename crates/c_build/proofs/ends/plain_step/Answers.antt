use Rattle.std.proofs.Common.{◌≡◌, ap, map, refl, ◌∙◌}
use Rattle.c_text.specs.declared.tree.Function as V
use Rattle.c_text.specs.Meant.{param_meant}
use Rattle.c_file.specs.ProgramC.{step_function}
use Rattle.c_build.specs.Scopes.{table}
use Rattle.c_build.proofs.Calls.{function_same, handed_meant}
use Rattle.c_build.proofs.ends.plain_step.Goals as goal

pub returns : goal.returns
returns c = λ n d h.
    let T = table c.args.scope in
    let f : V.Function =
    record { params = c.in_ok-params.params; result = c.in_ok-result.result; body = c.in_ok-body.body } in
    let params = ap (map (param_meant T)) c.in_ok-params.ensures ∙ handed_meant T n d c.args.whole.now h in
    function_same T f (step_function n d) params (c.in_ok-result.ensures n) (c.in_ok-body.ensures n d h.callee)
