use Rattle.yampa_run.proofs.WholeRun.{whole_run}
use Rattle.yampa_run.proofs.file_laws.whole_run_laws.Goals as goal

pub returns : goal.returns
returns c = record {
  whole = whole_run c.reading_laws.ensures.found c.reading_laws.ensures.fault c.stream_laws.ensures.fault c.derivation_laws.ensures.same_stream
      c.typing_laws.ensures.within;
}
