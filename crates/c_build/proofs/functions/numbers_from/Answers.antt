use Rattle.std.proofs.Common.{◌≡◌, ◌+◌, ◌∙◌, sym, length, arith}
use Rattle.std.proofs.lemmas.Grind.{common_steps}
use Rattle.c_build.proofs.FunctionRows.{next_number, no_number}
use Rattle.c_build.proofs.functions.numbers_from.Goals as goal

pub loop-i-preserved : goal.loop-i-preserved
loop-i-preserved c =
    let number : c.in-Some.number ≡ c.args.first + c.loop-i.i = grind (arith, common_steps, c.in-Some.ensures) in
    rw (c.in_ok-push.ensures.items, number)
    (next_number c.args.fs.now c.loop-i.all.items c.args.first c.loop-i.i c.loop-i-test.true ∙ c.loop-i.invariant)

pub returns : goal.returns
returns c =
    let e : c.loop-i.i ≡ length c.args.fs.now = omega arith in
    sym (no_number c.args.fs.now c.loop-i.all.items c.args.first c.loop-i.i e) ∙ c.loop-i.invariant
