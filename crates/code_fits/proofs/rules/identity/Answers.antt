use Rattle.code_fits.proofs.RuleTests.{if_ok, same-ok}
use Rattle.code_fits.proofs.rules.identity.Goals as goal

pub returns : goal.returns
returns c =
    if_ok _ (same-ok c.args.around.types.now c.args.around.bounds.now c.args.around.earlier.now c.args.around.layout.now
    c.in_ok-same.ensures c.in_ok-has.ensures) c.keeps_none.ensures
