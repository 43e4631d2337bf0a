use Rattle.std.proofs.Common.{◌≡◌, ◌<◌, ◌∙◌, ℕ, List, length, get_or, reverse, ap, sym, arith}
use Rattle.std.proofs.lemmas.List.{get_or-map, length-map}
use Rattle.std.proofs.lemmas.Result.{on_ok_weaker}
use Rattle.sample_core.specs.Datum.{Datum, unit}
use Rattle.sample_core.specs.ValueView.{datum_of}
use Rattle.cell_core.specs.Queue.{place}
use Rattle.cell_core.specs.Entries.{entries_of}
use Rattle.cell_core.specs.Earlier.{in_blocks}
use Rattle.cell_core.specs.Delays.{front_of, through}
use Rattle.cell_core.specs.declared.entry.Entry.{Entry}
use Rattle.cell_core.proofs.Queues.{gathered}
use Rattle.cell_core.proofs.queue.gather.Goals as goal

first_is : (es : List Entry) (front : List (ℕ × Datum)) (e : Entry) → entries_of es ≡ front → 0 < length front
    → (place front 0).1 ≡ datum_of (get_or es 0 e).value
first_is es front e all h =
    let len : length (entries_of es) ≡ length es = length-map es (λ (f : Entry). (f.time, datum_of f.value)) in
    let some : 0 < length es = omega (arith, h, len, ap length all) in
    ap (λ ps. (place ps 0).1) (sym all)
    ∙ ap (λ (p : ℕ × Datum). p.1) (get_or-map (λ (f : Entry). (f.time, datum_of f.value)) es 0 e (0, unit) some)

pub returns-in-None-last : goal.returns-in-None-last
returns-in-None-last c =
    on_ok_weaker c.push.result
    (λ h. gathered c.args.dt c.loop-rest.left c.in-Some.rest (place (front_of c.args.front.now) 0).1 _
    (reverse (entries_of c.loop-rest.samples.now)) (in_blocks c.loop-rest.earlier.now) c.loop-rest.entries _ _
    (through c.args.front.now c.args.behind.now c.args.dt) _ c.loop-rest.invariant
    c.in_ok-rest.ensures c.in-Some.is
    (ap in_blocks c.in-None-last.ensures)
    (first_is c.as_slice.result.now c.args.front.now.entries c.index-as_slice-0.result c.as_slice.ensures c.args.front.now.filled)
    h)
    c.push.ensures
