use Rattle.code_fits.proofs.RuleTests.{if_ok, initial_in-ok}
use Rattle.code_fits.proofs.rules.initial_in.Goals as goal

pub returns : goal.returns
returns c =
    if_ok _ (initial_in-ok c.args.around.types.now c.args.around.bounds.now c.args.around.earlier.now c.args.around.layout.now
    c.args.c.now c.args.f c.in_ok-leaf_at.ensures c.in_ok-goes.ensures c.in_ok-has.ensures) c.keeps_none.ensures
