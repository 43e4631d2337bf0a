use Rattle.std.proofs.Common.{arith, inr}
use Rattle.stream_text.proofs.Settling.{asked_failed, asked_more, last_settles, line_settles, needed_first, read_settles, turns_settle}
use Rattle.stream_text.proofs.settle.settle.Goals as goal

pub returns-in-Some-clause-settles : goal.returns-in-Some-clause-settles
returns-in-Some-clause-settles g c =
    rw c.settled_size.ensures.same (line_settles _ _ _ _ _ _ _ c.in-Some.size c.loop-size.invariant.1 c.in-Some.ensures.settled)

pub returns-then-reads-ge-MOST_READS-clause-settles : goal.returns-then-reads-ge-MOST_READS-clause-settles
returns-then-reads-ge-MOST_READS-clause-settles g c =
    rw c.settled_size.ensures.same
    (turns_settle _ _ _ _ _ _ _ c.loop-size.invariant.1 c.in_default.ensures.unsettled (omega (arith, c.if-reads-ge-MOST_READS.true, c.loop-size.invariant.0)))

pub loop-size-preserved-in-Bytes : goal.loop-size-preserved-in-Bytes
loop-size-preserved-in-Bytes g c =
    let piece = rw c.settled_size.ensures.same at c.in-Bytes.ensures in (
      omega (arith, c.if-reads-ge-MOST_READS.false),
      asked_more _ _ _ _ _ _ _ piece.0 _ _ c.loop-size.invariant.1 c.in_default.ensures.unsettled piece.1 piece.2 piece.3 piece.4,
      inr (needed_first _ _ _ _ _ c.loop-size.invariant.2 c.in_default.ensures.unsettled),
    )

pub returns-in-End-clause-settles : goal.returns-in-End-clause-settles
returns-in-End-clause-settles g c =
    let piece = rw c.settled_size.ensures.same at c.in-End.ensures in
    last_settles _ _ _ _ _ _ _ _ _ c.loop-size.invariant.1 c.in_default.ensures.unsettled c.in_default.ensures.free piece.0 piece.1 piece.2

pub returns-then-has_failed-clause-settles : goal.returns-then-has_failed-clause-settles
returns-then-has_failed-clause-settles g c =
    let piece = rw c.settled_size.ensures.same at c.in-Failed.ensures in
    read_settles _ _ _ _ _ _ _ _ _ c.loop-size.invariant.1 c.in_default.ensures.unsettled piece.0 piece.1

pub loop-size-preserved : goal.loop-size-preserved
loop-size-preserved g c =
    let piece = rw c.settled_size.ensures.same at c.in-Failed.ensures in (
      omega (arith, c.if-reads-ge-MOST_READS.false),
      asked_failed _ _ _ _ _ _ _ _ _ c.loop-size.invariant.1 c.in_default.ensures.unsettled piece.0 piece.1,
      inr (needed_first _ _ _ _ _ c.loop-size.invariant.2 c.in_default.ensures.unsettled),
    )
