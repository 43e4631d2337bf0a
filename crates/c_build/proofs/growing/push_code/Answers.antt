use Rattle.std.proofs.Common.{add-one}
use Rattle.c_build.proofs.Growths.{so_far_first, so_far_more, so_far_all}
use Rattle.c_build.proofs.growing.push_code.Goals as goal

pub loop-k-init : goal.loop-k-init
loop-k-init c = λ s known same g.
    rw c.in_ok-callees.ensures.items (so_far_first _ _ _ _ _ _ _ _ _ g)

pub loop-k-preserved : goal.loop-k-preserved
loop-k-preserved c = λ s known same g.
    so_far_more _ _ _ _ _ s c.args.program.now.functions.items c.args.program.now.layouts.items c.loop-k.k _ _ _
    c.loop-k.callees.items c.as_slice.result.now _ c.code-item.result c.in-Some.layout.now c.in_ok-called.called
    (c.loop-k.invariant s known same g) (rw c.deref-code-items.ensures.value at c.loop-k-test.true)
    (rw c.deref.ensures.value at c.in-Some.ensures.lookup.3.0)
    (rw c.deref-code-items.ensures.value at c.code-item.is) (rw c.deref.ensures.value at c.in-Some.ensures.lookup.1)
    (add-one c.loop-k.k) same c.as_slice.ensures.value c.in_ok-push.ensures.items
    (λ p h. c.in_ok-called.ensures p known h)

pub returns : goal.returns
returns c = λ s known same g.
    so_far_all _ _ _ _ _ _ _ c.loop-k.k _ _ (c.loop-k.invariant s known same g)
    (rw c.deref-code-items.ensures.value at c.loop-k-test.false)
