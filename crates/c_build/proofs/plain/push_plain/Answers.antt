use Rattle.c_build.proofs.plain.push_plain.Goals as goal

pub returns : goal.returns
returns c = λ n d h.
    let e1 = c.in_ok-add.ensures in
    let e2 = c.in_ok-add-2.ensures in
    let is_output = h.output in
    let is_number = h.number in
    rw (e2, e1, is_output, is_number)
