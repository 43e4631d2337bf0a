use Rattle.code_fits.proofs.RuleTests.{p_switch-ok}
use Rattle.code_fits.proofs.rules.p_switch.Goals as goal

pub returns : goal.returns
returns c =
    p_switch-ok c.args.around.types.now c.args.around.bounds.now c.args.around.earlier.now c.args.around.layout.now
    c.args.r.now c.args.fs.now c.args.e c.args.t _ _ _ _ _ c.in_ok-b.ensures c.in_ok-leaf_beside.ensures (rw c.as_slice-members.ensures.value at c.in_ok-all_go.ensures) (rw c.as_slice-members.ensures.value at c.in_ok-few.ensures) (rw c.as_slice-members.ensures.value at c.in_ok-answers_many.ensures) (rw c.as_slice-members.ensures.value at c.in_ok-frozen.ensures)
