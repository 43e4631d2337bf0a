use Rattle.code_fits.proofs.RuleTests.{if_ok, integral-ok}
use Rattle.code_fits.proofs.rules.integral.Goals as goal

pub returns : goal.returns
returns c =
    if_ok _ (integral-ok c.args.around.types.now c.args.around.bounds.now c.args.around.earlier.now c.args.around.layout.now
    c.in_ok-is_int.ensures c.in_ok-is_int-2.ensures c.in_ok-has.ensures) c.keeps_none.ensures
