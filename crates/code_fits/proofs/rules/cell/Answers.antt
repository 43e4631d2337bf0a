use Rattle.code_fits.proofs.RuleTests.{if_ok, cell-ok}
use Rattle.code_fits.proofs.rules.cell.Goals as goal

pub returns : goal.returns
returns c =
    if_ok _ (cell-ok c.args.around.types.now c.args.around.bounds.now c.args.around.earlier.now c.args.around.layout.now
    c.args.form c.args.c.now c.in_ok-v.v c.in_ok-v.ensures c.in_ok-leaf_at.ensures c.in_ok-cell_typed.ensures) c.has.ensures
