use Rattle.std.proofs.Common.{◌≡◌, ◌-◌, arith}
use Rattle.c_build.proofs.members.push_list.Goals as goal

pub returns : goal.returns
returns c = λ n Ps Os B counts is_element is_list is_room.
    let size : c.in-Ok.size ≡ c.args.count = omega arith in
    let left : c.in-Some.left ≡ n B - c.args.count = omega arith in
    let e1 = c.in_ok-add.ensures in
    let e2 = c.in_ok-push_answers.ensures n Ps Os B counts is_element in
    let e3 = c.in_ok-add-2.ensures in
    rw (e3, e2, e1, size, left, c.behind.ensures, counts.params, counts.olds, is_list)
