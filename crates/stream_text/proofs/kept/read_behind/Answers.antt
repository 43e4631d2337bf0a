use Rattle.std.proofs.Common.{rules, ◌≡◌, ◌≤◌, ◌<◌, ◌+◌, take, length, arith, ◌∙◌}
use Rattle.std.proofs.lemmas.Grind.{common_steps}
use Rattle.stream_text.proofs.KeptBytes.{read_part, resized_front}
use Rattle.stream_text.proofs.kept.read_behind.Goals as goal
use Rattle.stream_text.specs.declared.kept.TheConstants.{PIECE}

pub returns-in-Ok-read-clause-piece : goal.returns-in-Ok-read-clause-piece
returns-in-Ok-read-clause-piece g c =
    let n : c.len-old.result ≡ length c.args.bytes.now.items = search rules in
    let before : take c.len-old.result c.deref_mut.result.now ≡ c.args.bytes.now.items =
    rw (c.deref_mut.ensures.value, c.in-Ok.ensures.items) (resized_front c.args.bytes.now.items _ _ _ n) in
    let size : c.in-Ok-read.size ≤ length c.read.new.buf = grind (arith, c.in-Ok-read.ensures.bound) in
    let within : c.len-old.result + c.in-Ok-read.size ≤ c.resize.new.self.len = grind
    (arith, c.in-Ok-read.ensures.bound, c.read.auto.buf, c.deref_mut.ensures.len) in
    let some : 0 < length (take c.in-Ok-read.size c.read.new.buf) = grind (arith, common_steps, size, c.in-Ok-read.size-test) in
    let small : length (take c.in-Ok-read.size c.read.new.buf) ≤ PIECE = grind (arith, within, c.in-Ok-read.ensures.bound, c.in-Ok.ensures.len) in (
      take c.in-Ok-read.size c.read.new.buf,
      c.truncate-in-Ok-read.ensures.items
          ∙ read_part _ _ _ _ _ _ _ _ n before size within,
      some,
      small,
      c.in-Ok-read.ensures.bytes.0,
    )
