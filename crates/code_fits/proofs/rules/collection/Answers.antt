use Rattle.code_fits.proofs.RuleTests.{if_ok, collection-ok}
use Rattle.code_fits.proofs.rules.collection.Goals as goal

pub returns : goal.returns
returns c =
    if_ok _ (collection-ok c.args.around.types.now c.args.around.bounds.now c.args.around.earlier.now c.args.around.layout.now
    c.args.fs.now c.args.m.now c.args.t _ _ _ _ _ c.in_ok-by.ensures c.in_ok-b.ensures c.in_ok-a.ensures c.in_ok-u.ensures (rw c.as_slice-members.ensures.value at c.in_ok-all_go.ensures) (rw c.as_slice-members.ensures.value at c.in_ok-few.ensures) c.in_ok-answers_many.ensures c.in_ok-chooses.ensures c.in_ok-takes_over.ensures) c.has.ensures
