use Rattle.std.proofs.Common.{refl}
use Rattle.c_meaning.specs.Syntax.{local, dot}
use Rattle.c_build.proofs.forms.push_first.Goals as goal

pub returns : goal.returns
returns c = λ n Ps Os S A B D counts is_part is_answer.
    let e1 = c.in_ok-push_part_call.ensures n Ps Os B (local 0) (dot (local 2) 0) counts is_part (λ t. refl) (λ t. refl) in
    let e2 = c.in_ok-add.ensures in
    rw (e2, e1, c.behind.ensures, c.behind-2.ensures, counts.params, counts.olds, is_answer)
