use Rattle.std.proofs.Common.{◌++◌, List, Some, None, reverse, ap}
use Rattle.std.proofs.lemmas.List.{nil_from_length}
use Rattle.cell_core.specs.declared.entry.Entry.{Entry}
use Rattle.cell_core.specs.Cell.{due}
use Rattle.cell_core.specs.Entries.{entry_of, entries_of}
use Rattle.cell_core.specs.Queue.{times_behind, then_found}
use Rattle.cell_core.proofs.Queues.{newest_first, one_due, gathers_on}
use Rattle.cell_core.proofs.queue.gather_run.Goals as goal

pub returns-then-time-dt : goal.returns-then-time-dt
returns-then-time-dt c =
    c.each.invariant None _
    (one_due c.args.dt c.each.time (entry_of c.in-Some.newest.now) _ (reverse (entries_of c.in-Some.before.now)) _ _
    (newest_first c.each.rest.now c.in-Some.before.now c.in-Some.newest.now c.in-Some.ensures.cases.0) c.if-time-dt.true c.in_ok-push.ensures)

pub each-preserved : goal.each-preserved
each-preserved c = λ r fs g.
    c.each.invariant r fs
    (gathers_on c.args.dt c.each.time c.saturating_sub-time.result (entry_of c.in-Some.newest.now) _ (reverse (entries_of c.in-Some.before.now)) _ _ fs r
    (newest_first c.each.rest.now c.in-Some.before.now c.in-Some.newest.now c.in-Some.ensures.cases.0) c.if-time-dt.false
    c.in_ok-push-2.ensures c.saturating_sub-time.ensures g)

pub returns : goal.returns
returns c =
    c.each.invariant (Some c.each.time) c.each.entries
    (λ out older. ap (λ (xs : List Entry). then_found (due c.args.dt out (times_behind c.each.time (reverse (entries_of xs) ++ older))) c.each.entries) (nil_from_length c.each.rest.now c.in_default.ensures.cases))
