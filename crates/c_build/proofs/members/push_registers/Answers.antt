use Rattle.std.proofs.Common.{◌≡◌, ◌+◌, ◌*◌, ◌-◌, suc, length, add-one, arith}
use Rattle.c_build.proofs.members.push_registers.Goals as goal

pub loop-i-preserved : goal.loop-i-preserved
loop-i-preserved c = λ n Ps Os counts.
    let left : c.args.count - c.loop-i.i ≡ suc (c.args.count - suc c.loop-i.i) = omega arith in
    let e = c.in_ok-add.ensures in
    let r : c.behind.result ≡ 3 + (length Ps + 2 * length Os) + c.loop-i.i
    = rw (counts.params, counts.olds) c.behind.ensures in
    rw (add-one c.loop-i.i, e, r) (rw left at (c.loop-i.invariant n Ps Os counts))

pub returns : goal.returns
returns c = λ n Ps Os counts.
    let none : c.args.count - c.loop-i.i ≡ 0 = omega arith in
    rw none at (c.loop-i.invariant n Ps Os counts)
