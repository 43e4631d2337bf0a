use Rattle.std.proofs.Common.{◌≤◌, ◌+◌, length, arith}
use Rattle.std.proofs.lemmas.Grind.{common_steps}
use Rattle.yampa_run.proofs.Written.{written_more, breaks_off}
use Rattle.yampa_run.proofs.stream_run.put_on.Goals as goal

pub loop-turn-preserved : goal.loop-turn-preserved
loop-turn-preserved g c =
    let within : c.loop-turn.done + c.write_some-taken.result ≤ length c.args.bytes.now = grind
    (arith, common_steps, c.write_some-taken.ensures.within, c.loop-turn.invariant) in (
      within,
      λ from h. written_more _ _ _ c.args.bytes.now c.loop-turn.done c.write_some-taken.result c.loop-turn.invariant.0
          (c.loop-turn.invariant.1 from h) c.write_some-taken.ensures.taken,
    )

pub returns-clause-part : goal.returns-clause-part
returns-clause-part g c from h = breaks_off _ _ _ c.loop-turn.done c.if-done-bytes-2.false (c.loop-turn.invariant.1 from h)
