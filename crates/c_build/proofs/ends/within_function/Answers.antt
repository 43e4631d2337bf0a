use Rattle.std.proofs.Common.{List, [], ◌∷◌, ap, map, refl, ◌∙◌}
use Rattle.sample_core.specs.TypeView.{type_of}
use Rattle.c_meaning.specs.Object.{CType}
use Rattle.c_meaning.specs.Syntax.{const_param}
use Rattle.c_text.specs.declared.tree.Function as V
use Rattle.c_text.specs.Meant.{param_meant}
use Rattle.c_leaf.specs.Within.{within_function}
use Rattle.c_build.specs.declared.table.TheConstants.{TRUTH}
use Rattle.c_build.specs.Testing.{tested_by}
use Rattle.c_build.specs.Growing.{known_limits}
use Rattle.c_build.specs.Scopes.{table}
use Rattle.c_build.proofs.Calls.{function_same}
use Rattle.c_build.proofs.ends.within_function.Goals as goal

pub returns : goal.returns
returns c = λ h e.
    let T = table c.args.scope in
    let n = known_limits c.args.known in
    let A = type_of c.args.ty.now in
    let f : V.Function = record { params = c.in_ok-params.params; result = TRUTH; body = c.in_ok-body.body } in
    let param = rw (← e) at (c.in_ok-param.ensures h) in
    let params = ap (map (param_meant T)) c.in_ok-params.ensures.items
    ∙ ap (λ (t : CType). const_param t ∷ []) param in
    let body = c.in_ok-body.ensures n c.in_ok-most.ensures in
    function_same T f (within_function n (tested_by c.args.tests) A) params refl body
