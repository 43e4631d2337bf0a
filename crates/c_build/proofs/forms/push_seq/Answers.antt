use Rattle.std.proofs.Common.{refl}
use Rattle.c_meaning.specs.Syntax.{local, dot}
use Rattle.c_forms.specs.Standing.{behind}
use Rattle.c_build.proofs.forms.push_seq.Goals as goal

pub returns : goal.returns
returns c = λ n Ps Os S T A B D counts is_between is_answer.
    let e1 = c.in_ok-push_part_call.ensures n Ps Os B (dot (local 0) 0) (local 2) counts is_between (λ t. refl) (λ t. refl) in
    let e2 = c.in_ok-push_part_call-2.ensures n Ps Os D (dot (local 0) 1) (behind n Ps Os 0) counts is_answer (λ t. refl)
    (λ t. rw (c.behind.ensures, counts.params, counts.olds)) in
    let e3 = c.in_ok-add.ensures in
    rw (e3, e2, e1, c.behind-2.ensures, counts.params, counts.olds)
