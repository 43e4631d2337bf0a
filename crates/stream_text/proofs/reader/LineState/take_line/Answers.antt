use Rattle.std.proofs.Common.{refl, add-one, take, Err, ◌+◌}
use Rattle.sample_core.specs.TypeView.{type_of}
use Rattle.stream_text.proofs.Answers.{as_kept}
use Rattle.stream_text.proofs.reader.LineState.take_line.Goals as goal

pub returns-in-Err : goal.returns-in-Err
returns-in-Err c = (
  λ ne. as_kept (type_of c.args.ty.now) (c.args.self.now.lines + 1) _ c.as_ref.result c.args.self.now.before c.front.result.now
      (take c.args.size c.args.self.now.kept)
      (Err c.in-Err.refused) (add-one c.args.self.now.lines) c.as_ref.ensures.value c.front.ensures (c.in-Err.ensures ne),
  record { ends = refl; same = record { lines = refl; before = refl }; unread = refl },
)
