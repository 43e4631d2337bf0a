use Rattle.code_fits.proofs.RuleTests.{if_ok, previous-ok}
use Rattle.code_fits.proofs.rules.previous.Goals as goal

pub returns : goal.returns
returns c =
    if_ok _ (previous-ok c.args.around.types.now c.args.around.bounds.now c.args.around.earlier.now c.args.around.layout.now
    c.args.v c.in_ok-same.ensures) c.same-2.ensures
