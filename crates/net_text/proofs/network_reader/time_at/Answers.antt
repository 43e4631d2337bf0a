use Rattle.std.proofs.Common.{length}
use Rattle.leaf_expr.proofs.ReadSteps.{given}
use Rattle.net_text.specs.Form.{timer_of, version_of}
use Rattle.net_text.specs.ReadNet.{from_byte}
use Rattle.net_text.proofs.ReadSteps.{time_read}
use Rattle.net_text.proofs.network_reader.time_at.Goals as goal

pub returns : goal.returns
returns c =
    let text = c.args.text.now in
    given _ _ (time_read (version_of text.version) (length text.bytes.now) c.args.room (timer_of c.args.form) (from_byte c.args.at text))
    (rw (← c.least.ensures, ← c.greatest.ensures.number) c.read_natural.ensures.number)
