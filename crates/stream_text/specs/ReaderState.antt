-- What a reader of lines keeps from call to call.
use Rattle.std.specs.Option.{option_map}
use Rattle.sample_core.specs.ValueView.{datum_of}
use Rattle.stream_text.specs.declared.reader.LineState.{LineState}
use Rattle.stream_text.specs.Answers.{ReaderState}

-- what is kept of a stream, as bytes, numbers and a value
abbrev pub reader_state : LineState → ReaderState
reader_state s = record {
  kept = s.kept;
  lines = s.lines;
  before = option_map datum_of s.before;
  reads = s.reads;
  met = s.met;
}
