use Rattle.std.proofs.Common.{◌≡◌, length, refl, add-one, arith, drop-cons}
use Rattle.std.proofs.Math.Seq.{drop-length}
use Rattle.c_meaning.specs.Syntax.{local}
use Rattle.c_forms.specs.Cells.{kept_at}
use Rattle.c_build.proofs.members.push_members.Goals as goal

pub loop-i-preserved : goal.loop-i-preserved
loop-i-preserved c = λ n Ps Os B counts is_element.
    let e = c.in_ok-push_part_call.ensures n Ps Os B (kept_at c.loop-i.i) (local 2) counts is_element (λ t. refl) (λ t. refl) in
    let h = c.loop-i-test.true in
    rw (add-one c.loop-i.i, e) (rw (drop-cons c.args.js.now c.loop-i.i 0) at (c.loop-i.invariant n Ps Os B counts is_element))

pub returns : goal.returns
returns c = λ n Ps Os B counts is_element.
    let e : c.loop-i.i ≡ length c.args.js.now = omega arith in
    rw (e, drop-length c.args.js.now) at (c.loop-i.invariant n Ps Os B counts is_element)
