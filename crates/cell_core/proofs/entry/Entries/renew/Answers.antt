use Rattle.std.proofs.Common.{◌∙◌, ◌++◌, ◌-◌, List, length, take, drop, ap, arith}
use Rattle.std.proofs.lemmas.List.{with_items_is}
use Rattle.std.proofs.lemmas.Result.{on_ok_weaker}
use Rattle.cell_core.specs.declared.entry.Entry.{Entry}
use Rattle.cell_core.specs.Entries.{entries_of}
use Rattle.cell_core.proofs.Copies.{put_first}
use Rattle.cell_core.proofs.entry.Entries.renew.Goals as goal

pub returns : goal.returns
returns c =
    let there = c.min-there.result in
    let places : List Entry = c.put_copies.new.places in
    let from : List Entry = c.args.from.now in
    on_ok_weaker c.push_all.result
    (λ h. h
    ∙ ap (λ (xs : List Entry). entries_of (take there xs) ++ entries_of (take (length from - there) (drop there from)))
    (with_items_is c.self.inside.all places (omega arith))
    ∙ put_first there places from (omega arith) c.in_ok-put_copies.ensures.copied)
    c.push_all.ensures
