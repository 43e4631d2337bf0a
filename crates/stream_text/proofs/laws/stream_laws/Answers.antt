use Rattle.stream_text.proofs.Hearing.{begin_law, more_law, end_law, faulty_law, unread_law, turns_law}
use Rattle.stream_text.proofs.LineFaults.{line_fault_law}
use Rattle.stream_text.proofs.LineLaws.{line_law}
use Rattle.stream_text.proofs.StepLaws.{step_law}
use Rattle.stream_text.proofs.WholeValues.{whole_values}
use Rattle.stream_text.proofs.WrittenStreams.{written_law}
use Rattle.stream_text.proofs.laws.stream_laws.Goals as goal

pub returns : goal.returns
returns c = record {
  begins = begin_law;
  more = more_law;
  ends = end_law;
  faulty = faulty_law;
  unread = unread_law;
  turns = turns_law;
  value = whole_values c.reading_laws.ensures.found;
  step = step_law;
  line = line_law (whole_values c.reading_laws.ensures.found) step_law;
  fault = line_fault_law step_law;
  written = written_law (line_law (whole_values c.reading_laws.ensures.found) step_law);
}
