use Rattle.std.proofs.Common.{◌≡◌, sym, ap, ◌∙◌, length, false}
use Rattle.stream_text.specs.TextLines.{shows_fault}
use Rattle.stream_text.proofs.Settling.{unsettled}
use Rattle.stream_text.proofs.settle.settled_size.Goals as goal

pub returns-else-is_faulty-clause-unsettled : goal.returns-else-is_faulty-clause-unsettled
returns-else-is_faulty-clause-unsettled c =
    let faultless : shows_fault c.args.number (length c.args.kept.now) ≡ false =
    ap (λ size. shows_fault c.args.number size) (ap (λ k. length k) (sym c.feed_at.ensures.same) ∙ sym c.len-size.ensures)
    ∙ sym c.if-is_faulty.ensures in
    unsettled _ _ (c.in_default.ensures.none) faultless
