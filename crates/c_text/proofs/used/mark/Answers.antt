use Rattle.std.proofs.Common.{arith, ap, sym, ◌∙◌}
use Rattle.c_text.specs.Used.{mark}
use Rattle.c_text.proofs.UsedRows.{mark-more, mark-set}
use Rattle.c_text.proofs.used.mark.Goals as goal

pub loop-used-preserved : goal.loop-used-preserved
loop-used-preserved c =
    ap (mark c.args.k) c.in_ok-push.ensures.items
    ∙ mark-more c.args.k c.loop-used.used.items (omega (arith, c.loop-used-test.true, c.len.ensures))
    ∙ c.loop-used.invariant

pub returns : goal.returns
returns c =
    sym (mark-set c.args.k c.loop-used.used.items (omega (arith, c.loop-used-test.false, c.len.ensures)))
    ∙ c.loop-used.invariant
