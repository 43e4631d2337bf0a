use Rattle.c_build.specs.Scopes.{table}
use Rattle.c_build.proofs.lines.push_modular.Goals as goal

pub returns : goal.returns
returns c = λ d e is_a is_b t.
    let e1 = c.in_ok-push_all.ensures (table c.args.scope) t in
    let e2 = c.in_ok-push_all-2.ensures (table c.args.scope) t in
    let e3 = c.in_ok-push_all-3.ensures (table c.args.scope) t in
    let e4 = c.in_ok-push_all-4.ensures (table c.args.scope) t in
    rw (e4, e3, is_b, e2, e1, is_a)
