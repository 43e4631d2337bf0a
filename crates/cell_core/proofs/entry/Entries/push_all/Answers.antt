use Rattle.std.proofs.Common.{◌++◌, ◌∷◌, [], ap, sym, ◌∙◌, append_assoc, take}
use Rattle.cell_core.specs.Entries.{entry_of, entries_of}
use Rattle.cell_core.proofs.Copies.{next_taken}
use Rattle.cell_core.proofs.entry.Entries.push_all.Goals as goal

pub loop-entry-preserved : goal.loop-entry-preserved
loop-entry-preserved c =
    c.in_ok-push.ensures
    ∙ ap (λ xs. xs ++ entry_of c.entry-item.result ∷ []) c.loop-entry.invariant
    ∙ append_assoc c.args.self.now (take c.loop-entry.entry-index (entries_of c.args.from.now)) (entry_of c.entry-item.result ∷ [])
    ∙ ap (λ xs. c.args.self.now ++ xs) (sym (next_taken c.args.from.now c.loop-entry.entry-index c.entry-item.result c.loop-entry-test.true c.entry-item.is))
