use Rattle.std.proofs.Common.{refl}
use Rattle.c_meaning.specs.Syntax.{local, dot}
use Rattle.c_build.specs.Scopes.{table}
use Rattle.c_build.proofs.cells.push_time.Goals as goal

pub returns : goal.returns
returns c = λ n Ps Os V A.
    let e1 = c.in_ok-add.ensures in
    let e2 = c.in_ok-push_modular.ensures (dot (local 0) 0) (local 1) (λ t. refl) (λ t. refl) in
    let e3 = c.in_ok-add-2.ensures in
    rw (e3, e2, e1)
