use Rattle.std.proofs.Common.{◌≡◌, ◌∙◌, Contains, subst}
use Rattle.leaf_table.specs.Rows.{rows_of}
use Rattle.yampa_run.proofs.fill.add_row.Goals as goal

pub returns-in-Ok-add-clause-stored : goal.returns-in-Ok-add-clause-stored
returns-in-Ok-add-clause-stored g c = λ absent.
    let same : c.new.result.key ≡ c.args.need.now.key = c.new.ensures.key ∙ c.in-Ok.ensures in (
      c.new.result,
      c.in-Ok-add.ensures.stored (λ has. absent (subst (Contains (rows_of c.args.table.now)) same has)),
      same,
      c.new.ensures.output ∙ c.in-Ok-try_copy.ensures,
    )
