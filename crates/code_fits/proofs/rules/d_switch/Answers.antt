use Rattle.code_fits.proofs.RuleTests.{if_ok, d_switch-ok}
use Rattle.code_fits.proofs.rules.d_switch.Goals as goal

pub returns : goal.returns
returns c =
    if_ok _ (d_switch-ok c.args.around.types.now c.args.around.bounds.now c.args.around.earlier.now c.args.around.layout.now
    c.args.f c.args.t _ _ _ c.in_ok-answer.ensures) c.has.ensures
