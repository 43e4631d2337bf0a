use Rattle.yampa_run.proofs.Headline.{same_output, same_front, writes_output, headline}
use Rattle.yampa_run.proofs.file_laws.headline_laws.Goals as goal

pub returns : goal.returns
returns c =
    let reads = c.reading_laws.ensures.found in
    let same = c.derivation_laws.ensures.same_stream in
    record {
      same_output = same_output reads same;
      same_front = same_front reads same;
      writes_output = writes_output;
      headline = headline reads same;
    }
