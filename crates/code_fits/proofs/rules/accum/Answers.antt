use Rattle.code_fits.proofs.RuleTests.{if_ok, accum-ok}
use Rattle.code_fits.proofs.rules.accum.Goals as goal

pub returns : goal.returns
returns c =
    if_ok _ (accum-ok c.args.around.types.now c.args.around.bounds.now c.args.around.earlier.now c.args.around.layout.now
    c.args.g.now c.args.z.now _ _ c.in_ok-v.ensures c.in_ok-u.ensures c.in_ok-events.ensures c.in_ok-leaf_at.ensures (rw c.in_ok-value.ensures at c.in_ok-leaf_beside.ensures)) c.has.ensures
