use Rattle.std.proofs.Common.{List, ◌∷◌, ◌++◌, map, ap, ◌∙◌}
use Rattle.c_meaning.specs.Object.{CType, number_type, i64}
use Rattle.c_meaning.specs.Syntax.{Parameter, const_param, value_param, pointer_param, Command}
use Rattle.c_meaning.specs.Syntax as C
use Rattle.c_text.specs.Meant.{param_meant, command_meant, type_meant}
use Rattle.c_leaf.specs.Representing.{c_type}
use Rattle.c_leaf.specs.LeafC.{const_params}
use Rattle.c_forms.specs.Keeping.{shape_type}
use Rattle.c_forms.specs.Standing.{old_params}
use Rattle.c_file.specs.FunctionC.{olds}
use Rattle.c_build.specs.declared.sym.Sym.{Sym}
use Rattle.c_build.specs.Symbols.{Stacks, built, top_command}
use Rattle.c_build.specs.Scopes.{table}
use Rattle.c_build.specs.Frames.{bounds_in, layout_in, const_rows, old_rows}
use Rattle.c_build.proofs.Rows.{rows_meant}
use Rattle.c_build.proofs.steps.stepping.Goals as goal

pub returns : goal.returns
returns c = λ cs S A B xs d h k i a l.
    let F = c.args.frame in
    let T = table F.scope in
    let n = bounds_in F in
    let Ps = (layout_in F).params in
    let Os = olds cs (layout_in F) in
    let qs : List Parameter = const_params n Ps ++ old_params n Os in
    let params = ap (map (param_meant T)) c.in_ok-params.ensures
    ∙ (ap (λ (q : CType). pointer_param q ∷ value_param (number_type i64) ∷ const_param (type_meant T c.args.input)
    ∷ map (param_meant T) (const_rows F.scope.params.now ++ old_rows F.scope.olds.now)) k
    ∙ (ap (λ (q : CType). pointer_param (shape_type n S) ∷ value_param (number_type i64) ∷ const_param q
    ∷ map (param_meant T) (const_rows F.scope.params.now ++ old_rows F.scope.olds.now)) i
    ∙ ap (λ (ps : List Parameter). pointer_param (shape_type n S) ∷ value_param (number_type i64)
    ∷ const_param (c_type n A) ∷ ps)
    (rows_meant T F.scope.params.now F.scope.olds.now n Ps Os h.params h.olds))) in
    let all : List Parameter = pointer_param (shape_type n S) ∷ value_param (number_type i64)
    ∷ const_param (c_type n A) ∷ qs in
    let body = c.in_ok-body.ensures T
    ∙ (ap (λ (ys : List Sym). top_command (built T ys).commands) c.as_slice.ensures.value
    ∙ ap (λ (s : Stacks). top_command s.commands) l) in
    let f : List Parameter → CType → Command → C.Function =
    λ ps y b. record { params = ps; result = y; body = b } in
    ap (λ (ps : List Parameter). f ps (type_meant T c.args.answer) (command_meant T c.in_ok-body.body)) params
    ∙ (ap (λ (y : CType). f all y (command_meant T c.in_ok-body.body)) a ∙ ap (f all (c_type n B)) body)
