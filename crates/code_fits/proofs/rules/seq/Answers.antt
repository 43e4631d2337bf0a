use Rattle.code_fits.proofs.RuleTests.{if_ok, seq-ok}
use Rattle.code_fits.proofs.rules.seq.Goals as goal

pub returns : goal.returns
returns c =
    if_ok _ (seq-ok c.args.around.types.now c.args.around.bounds.now c.args.around.earlier.now c.args.around.layout.now
    c.args.f c.args.g _ c.in_ok-goes.ensures c.in_ok-goes-2.ensures c.in_ok-has.ensures) c.keeps_none.ensures
