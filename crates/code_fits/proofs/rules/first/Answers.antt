use Rattle.code_fits.proofs.RuleTests.{if_ok, first-ok}
use Rattle.code_fits.proofs.rules.first.Goals as goal

pub returns : goal.returns
returns c =
    if_ok _ (first-ok c.args.around.types.now c.args.around.bounds.now c.args.around.earlier.now c.args.around.layout.now
    c.args.f _ _ _ _ c.in_ok-a.ensures c.in_ok-b.ensures c.in_ok-same.ensures c.in_ok-goes.ensures c.in_ok-has.ensures) c.keeps_none.ensures
