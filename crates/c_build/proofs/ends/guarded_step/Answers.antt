use Rattle.std.proofs.Common.{◌≡◌, ap, map, refl, ◌∙◌}
use Rattle.c_text.specs.declared.tree.Function as V
use Rattle.c_text.specs.Meant.{param_meant}
use Rattle.c_build.specs.declared.table.TheConstants.{TRUTH}
use Rattle.c_file.specs.Guarded.{guarded_step}
use Rattle.c_build.specs.Scopes.{table}
use Rattle.c_build.proofs.Calls.{function_same, handed_meant}
use Rattle.c_build.proofs.ends.guarded_step.Goals as goal

pub returns : goal.returns
returns c = λ n d h.
    let T = table c.args.scope in
    let f : V.Function =
    record { params = c.in_ok-params.params; result = TRUTH; body = c.in_ok-body.body } in
    let params = ap (map (param_meant T)) c.in_ok-params.ensures ∙ handed_meant T n d c.args.whole.now h in
    function_same T f (guarded_step n d c.args.t c.args.j) params refl (c.in_ok-body.ensures n d)
