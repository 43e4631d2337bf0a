use Rattle.stream_text.proofs.Answers.{typed_answer, stepped_answer, before_kept}
use Rattle.stream_text.proofs.reader.LineState.next.Goals as goal

pub returns-in-Nothing-clause-typed : goal.returns-in-Nothing-clause-typed
returns-in-Nothing-clause-typed g c = typed_answer c.reading_laws.ensures.found _ _ _ _ _ _ c.requires c.go_on.ensures.answers

pub returns-in-Nothing-clause-stepped : goal.returns-in-Nothing-clause-stepped
returns-in-Nothing-clause-stepped g c = stepped_answer c.reading_laws.ensures.found _ _ _ _ _ _ c.requires c.go_on.ensures.answers

pub returns-in-Nothing-clause-before : goal.returns-in-Nothing-clause-before
returns-in-Nothing-clause-before g c = before_kept c.reading_laws.ensures.found _ _ _ _ _ _ c.requires c.go_on.ensures.answers
