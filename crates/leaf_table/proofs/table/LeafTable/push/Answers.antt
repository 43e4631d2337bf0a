use Rattle.std.proofs.Common.{◌≡◌, ◌<◌, ◌++◌, ◌∷◌, [], Some, slice_get, ◌∙◌, sym, ap, subst}
use Rattle.std.proofs.lemmas.Map.Entries.{length-keys_of}
use Rattle.std.specs.Map.{keys_of, values_of}
use Rattle.leaf_table.proofs.KeyEquality.{key_same}
use Rattle.leaf_table.proofs.TableLemmas.{absent_from, keyed_after, room_after, entries_after, entries_grown, keys_push, key_pushed, values_push}
use Rattle.leaf_table.proofs.table.LeafTable.push.Goals as goal
use Rattle.leaf_table.specs.declared.table.TheConstants.{MOST_ROWS}

pub invariant_of-self-clause-keyed : goal.invariant_of-self-clause-keyed
invariant_of-self-clause-keyed g c =
    let absent = absent_from _ key_same c.args.self.now.rows c.args.key c.requires.fresh in
    keyed_after (λ l. l.key) _ _ _ _
    (entries_after _ c.args.self.now.rows c.insert.new.self c.args.key c.args.leaf absent _ c.insert.ensures.entries c.insert.ensures.err)
    c.args.self.now.keyed c.requires.own

pub invariant_of-self-clause-within : goal.invariant_of-self-clause-within
invariant_of-self-clause-within g c =
    let absent = absent_from _ key_same c.args.self.now.rows c.args.key c.requires.fresh in
    room_after _ _ _ (entries_after _ c.args.self.now.rows c.insert.new.self c.args.key c.args.leaf absent _ c.insert.ensures.entries c.insert.ensures.err)
    (subst (λ n. n < MOST_ROWS) (length-keys_of _) c.requires.room)

pub returns-in-Ok-clause-grown : goal.returns-in-Ok-clause-grown
returns-in-Ok-clause-grown g c =
    let absent = absent_from _ key_same c.args.self.now.rows c.args.key c.requires.fresh in
    ap keys_of (entries_grown _ c.args.self.now.rows c.insert.new.self c.args.key c.args.leaf absent c.in-Ok.ensures.entries) ∙ keys_push _ _

pub returns-in-Ok-clause-row : goal.returns-in-Ok-clause-row
returns-in-Ok-clause-row g c =
    let absent = absent_from _ key_same c.args.self.now.rows c.args.key c.requires.fresh in
    let grown = entries_grown _ c.args.self.now.rows c.insert.new.self c.args.key c.args.leaf absent c.in-Ok.ensures.entries in
    let at : slice_get (keys_of (c.args.self.now.rows.entries ++ (c.args.key, c.args.leaf) ∷ [])) c.len-row.result ≡ Some c.args.key =
    subst (λ n. slice_get (keys_of (c.args.self.now.rows.entries ++ (c.args.key, c.args.leaf) ∷ [])) n ≡ Some c.args.key) (sym c.len-row.ensures.len)
    (key_pushed c.args.self.now.rows.entries (c.args.key, c.args.leaf)) in
    ap (λ es. slice_get (keys_of es) c.len-row.result) grown ∙ at

pub returns-in-Ok-clause-stored : goal.returns-in-Ok-clause-stored
returns-in-Ok-clause-stored g c =
    let absent = absent_from _ key_same c.args.self.now.rows c.args.key c.requires.fresh in
    ap values_of (entries_grown _ c.args.self.now.rows c.insert.new.self c.args.key c.args.leaf absent c.in-Ok.ensures.entries) ∙ values_push _ _
