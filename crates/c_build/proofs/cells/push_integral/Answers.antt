use Rattle.std.proofs.Common.{refl}
use Rattle.c_meaning.specs.Syntax.{local, dot, times}
use Rattle.c_meaning.specs.Wrapping.{modular}
use Rattle.c_build.proofs.cells.push_integral.Goals as goal

pub returns : goal.returns
returns c = λ n Ps Os V.
    let more = c.in_ok-push_modular.ensures (local 1) (dot (local 0) 1) (λ t. refl) (λ t. refl) in
    let e1 = c.in_ok-add.ensures in
    let e2 = c.in_ok-push_modular-2.ensures (dot (local 0) 0) (modular times (local 1) (dot (local 0) 1)) (λ t. refl)
    (λ t. rw (c.as_slice.ensures.value, more t, c.new-more.ensures.items)) in
    let e3 = c.in_ok-add-2.ensures in
    rw (e3, e2, e1)
