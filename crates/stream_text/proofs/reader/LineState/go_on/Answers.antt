use Rattle.std.proofs.Common.{add-one}
use Rattle.stream_text.proofs.Answers.{line_given, last_given, fault_given}
use Rattle.stream_text.proofs.reader.LineState.go_on.Goals as goal

pub returns-in-Ok-Line-clause-answers : goal.returns-in-Ok-Line-clause-answers
returns-in-Ok-Line-clause-answers g c =
    let settled = rw c.in-Ok-Line.field-0-is at c.in-Ok-Line.ensures.settles in
    line_given _ _ _ _ _ _ _ _ c.in-Ok-Line.size _ (add-one c.args.self.now.lines) c.requires settled (rw c.in-Ok-Line.size-is at c.take_line.ensures)

pub returns-in-Ok-Last-clause-answers : goal.returns-in-Ok-Last-clause-answers
returns-in-Ok-Last-clause-answers g c =
    let settled = rw c.in-Ok-Last.field-0-is at c.in-Ok-Last.ensures.settles in
    last_given _ _ _ _ _ _ _ _ _ (add-one c.args.self.now.lines) c.requires settled c.take_last.ensures

pub returns-in-Err-clause-answers : goal.returns-in-Err-clause-answers
returns-in-Err-clause-answers g c = fault_given _ _ _ _ _ _ _ _ (add-one c.args.self.now.lines) c.requires c.in-Err.ensures.settles
