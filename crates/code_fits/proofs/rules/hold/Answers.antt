use Rattle.code_fits.proofs.RuleTests.{if_ok, hold-ok}
use Rattle.code_fits.proofs.rules.hold.Goals as goal

pub returns : goal.returns
returns c =
    if_ok _ (hold-ok c.args.around.types.now c.args.around.bounds.now c.args.around.earlier.now c.args.around.layout.now
    c.args.v c.in_ok-events.ensures) c.same.ensures
