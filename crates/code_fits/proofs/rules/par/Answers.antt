use Rattle.std.proofs.Common.{arith}
use Rattle.code_fits.proofs.RuleTests.{if_ok, par-ok}
use Rattle.code_fits.proofs.rules.par.Goals as goal

pub returns : goal.returns
returns c =
    if_ok _ (par-ok c.args.around.types.now c.args.around.bounds.now c.args.around.earlier.now c.args.around.layout.now
    c.args.fs.now _ c.in_ok-b.ensures (rw c.as_slice-members.ensures.value at c.in_ok-all_go.ensures) (omega arith) c.in_ok-has.ensures) c.keeps_none.ensures
