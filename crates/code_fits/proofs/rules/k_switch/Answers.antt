use Rattle.code_fits.proofs.RuleTests.{k_switch-ok}
use Rattle.code_fits.proofs.rules.k_switch.Goals as goal

pub returns : goal.returns
returns c =
    k_switch-ok c.args.around.types.now c.args.around.bounds.now c.args.around.earlier.now c.args.around.layout.now
    c.args.f c.args.e c.args.t _ _ _ c.in_ok-goes.ensures c.in_ok-frozen.ensures
