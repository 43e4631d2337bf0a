use Rattle.std.proofs.Common.{◌∙◌, ap, map, sym, arith, Ok}
use Rattle.net_tree.specs.LawStep.{step_of}
use Rattle.yampa_run.proofs.Places.{all_read, unread}
use Rattle.yampa_run.proofs.words.place_in.Goals as goal

pub returns-in-Ok : goal.returns-in-Ok
returns-in-Ok c =
    all_read c.args.word.now c.as_bytes.result.now (map step_of c.deref.result.now) c.place_of_first-place.result
    (let f = c.if-word-gt-MOST_PLACE.false in grind arith)
    (λ ss h. c.in-Ok.ensures.only ss h ∙ ap (λ xs. Ok (map step_of xs)) (sym c.deref.ensures.value))
    (c.as_bytes.ensures.value ∙ c.in_ok-text.ensures) c.place_of_first-place.ensures

pub returns : goal.returns
returns c = λ p h.
    unread c.args.word.now p c.as_bytes.result.now c.in-Err.fault c.in_ok-unless_memory-in-Err.ensures c.in-Err.ensures.only
    (c.as_bytes.ensures.value ∙ c.in_ok-text.ensures) h
