use Rattle.std.proofs.Common.{arith, refl, add-one}
use Rattle.sample_core.specs.TypeView.{type_of}
use Rattle.stream_text.proofs.Answers.{next_taken}
use Rattle.stream_text.proofs.LineAhead.{ahead_of_all}
use Rattle.stream_text.proofs.reader.LineState.take_within.Goals as goal

pub returns : goal.returns
returns c =
    next_taken (type_of c.args.ty.now) _ _ c.in_ok-step.step c.in_ok-step.size _ (grind arith) c.requires.open c.requires.later
    (ahead_of_all (type_of c.args.ty.now) c.args.self.now.kept c.args.most c.in_ok-step.step c.in_ok-step.size _
    (rw c.near.ensures at c.in_ok-step.ensures)) c.skip_fed.ensures (add-one c.args.self.now.lines) c.put_behind.ensures refl refl
