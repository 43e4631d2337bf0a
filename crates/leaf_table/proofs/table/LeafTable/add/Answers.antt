use Rattle.std.proofs.Common.{◌≡◌, ◌<◌, length, Some, ◌∙◌, sym, ap, subst, arith}
use Rattle.std.proofs.lemmas.Map.Entries.{length-keys_of}
use Rattle.std.proofs.lemmas.Result.{IfOk-weaker, IfErr-weaker}
use Rattle.leaf_table.proofs.TableLemmas.{has_key}
use Rattle.leaf_table.specs.Rows.{rows_of}
use Rattle.leaf_table.specs.declared.fault.TableFault.TheVariants as F
use Rattle.leaf_table.proofs.table.LeafTable.add.Goals as goal
use Rattle.leaf_table.specs.declared.table.TheConstants.{MOST_ROWS}

pub returns-in-Ok-clause-row : goal.returns-in-Ok-clause-row
returns-in-Ok-clause-row g c = IfOk-weaker c.push.result _ _ (λ id at. at ∙ ap Some c.in-Ok.ensures) c.push.ensures.row

pub returns-in-Ok-clause-full : goal.returns-in-Ok-clause-full
returns-in-Ok-clause-full g c =
    let few : length (rows_of c.args.self.now) < MOST_ROWS = subst (λ n. n < MOST_ROWS) (c.len.ensures.len ∙ sym (length-keys_of _)) c.if-len-ge-MOST_ROWS.false in
    IfErr-weaker c.push.result _ _
    (λ e h. (λ full. absurd (let clash : F.Memory ≡ F.Full = sym h.1 ∙ full in cc), λ all. absurd (omega (arith, few, all))))
    c.push.ensures.returned

pub returns-in-Some-clause-stored : goal.returns-in-Some-clause-stored
returns-in-Some-clause-stored g c = λ absent. absurd (absent (has_key _ _ _ c.in-Some.ensures.found))

pub returns-in-Some-clause-refused : goal.returns-in-Some-clause-refused
returns-in-Some-clause-refused g c = λ absent. absurd (absent (has_key _ _ _ c.in-Some.ensures.found))
