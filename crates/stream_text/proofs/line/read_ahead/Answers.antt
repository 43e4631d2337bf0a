use Rattle.std.proofs.Common.{arith, sym}
use Rattle.sample_core.specs.TypeView.{type_of}
use Rattle.stream_text.proofs.LineAhead.{behind_within, is_ahead}
use Rattle.stream_text.proofs.line.read_ahead.Goals as goal

pub overflow_sub-size : goal.overflow_sub-size
overflow_sub-size c = behind_within c.args.bytes.now c.in_ok-step.rest.now c.in_ok-step.step (sym c.in_ok-step.ensures)

pub returns : goal.returns
returns c =
    let within = behind_within c.args.bytes.now c.in_ok-step.rest.now c.in_ok-step.step (sym c.in_ok-step.ensures) in
    is_ahead c.reading_laws.ensures.found (type_of c.args.ty.now) c.args.bytes.now c.in_ok-step.rest.now c.in_ok-step.step _
    c.in_ok-is_new.taken _ (sym c.in_ok-step.ensures) c.in_ok-is_new.ensures.ends (omega (arith, within)) c.requires
