use Rattle.std.proofs.Common.{refl}
use Rattle.stream_text.proofs.Answers.{next_step_given, step_given}
use Rattle.stream_text.proofs.reader.LineState.next_step.Goals as goal

pub returns-in-Some-clause-answers : goal.returns-in-Some-clause-answers
returns-in-Some-clause-answers g c = next_step_given _ _ _ _ c.in-Some.step c.next_kept.new.self.before refl c.in-Some.ensures.taken

pub returns-in-None-clause-answers : goal.returns-in-None-clause-answers
returns-in-None-clause-answers g c = step_given _ _ _ _ _ _ c.next.result _ c.in-None.ensures.taken c.step_alone.ensures c.next.ensures.answers
