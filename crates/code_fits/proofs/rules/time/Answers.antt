use Rattle.code_fits.proofs.RuleTests.{if_ok, time-ok}
use Rattle.code_fits.proofs.rules.time.Goals as goal

pub returns : goal.returns
returns c =
    if_ok _ (time-ok c.args.around.types.now c.args.around.bounds.now c.args.around.earlier.now c.args.around.layout.now
    c.in_ok-is_int.ensures c.in_ok-has.ensures) c.keeps_none.ensures
