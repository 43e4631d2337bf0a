use Rattle.std.proofs.Common.{refl}
use Rattle.c_meaning.specs.Syntax.{local, dot}
use Rattle.c_forms.specs.Standing.{behind}
use Rattle.sample_core.specs.TypeTree.{pair_ty}
use Rattle.c_build.proofs.forms.push_loop.Goals as goal

pub returns : goal.returns
returns c = λ n Ps Os S A B V counts is_kept is_passed is_answer.
    let e1 = c.in_ok-push_constant_call.ensures n Ps Os V counts is_kept in
    let e2 = c.in_ok-add.ensures in
    let e3 = c.in_ok-push_part_call.ensures n Ps Os (pair_ty B V) (dot (local 0) 1) (behind n Ps Os 2) counts is_answer (λ t. refl)
    (λ t. rw (c.behind-3.ensures, counts.params, counts.olds)) in
    let e4 = c.in_ok-add-2.ensures in
    rw (e4, e3, e2, e1, c.behind.ensures, c.behind-2.ensures, c.behind-4.ensures, c.behind-5.ensures, counts.params, counts.olds, is_kept, is_passed)
