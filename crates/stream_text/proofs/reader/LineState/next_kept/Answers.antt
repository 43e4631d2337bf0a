use Rattle.stream_text.proofs.Answers.{next_stepped, next_before}
use Rattle.stream_text.proofs.reader.LineState.next_kept.Goals as goal

pub returns-in-Nothing-Some-clause-stepped : goal.returns-in-Nothing-Some-clause-stepped
returns-in-Nothing-Some-clause-stepped c =
    next_stepped c.reading_laws.ensures.found _ _ _ c.take_next.result c.requires
    (λ q. let some = rw c.in-Nothing-Some.is-1 at q in cc) c.take_next.ensures

pub returns-in-Nothing-Some-clause-before : goal.returns-in-Nothing-Some-clause-before
returns-in-Nothing-Some-clause-before c = next_before c.reading_laws.ensures.found _ _ _ c.take_next.result c.requires c.take_next.ensures
