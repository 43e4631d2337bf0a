use Rattle.std.proofs.Common.{arith}
use Rattle.code_fits.proofs.RuleTests.{if_ok, repeatedly-ok}
use Rattle.code_fits.proofs.rules.repeatedly.Goals as goal

pub returns : goal.returns
returns c =
    if_ok _ (repeatedly-ok c.args.around.types.now c.args.around.bounds.now c.args.around.earlier.now c.args.around.layout.now
    c.args.q c.args.v (omega arith) (omega arith)) c.events.ensures
