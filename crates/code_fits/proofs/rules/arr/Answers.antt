use Rattle.code_fits.proofs.RuleTests.{if_ok, arr-ok}
use Rattle.code_fits.proofs.rules.arr.Goals as goal

pub returns : goal.returns
returns c =
    if_ok _ (arr-ok c.args.around.types.now c.args.around.bounds.now c.args.around.earlier.now c.args.around.layout.now
    c.args.e.now c.in_ok-leaf.ensures c.in_ok-has.ensures) c.keeps_none.ensures
