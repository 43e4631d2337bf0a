-- What a contract sees of a stream with its reader.
use Rattle.stream_text.specs.Answers.{ReaderState}
use Rattle.stream_text.specs.ReaderState.{reader_state}
use Rattle.stream_text.specs.declared.reader.LineReader.{LineReader}

-- the reader itself
abbrev pub source_of : {R : Type 0} → LineReader R → R
source_of r = r.source

-- what is kept of the stream
abbrev pub stream_state : {R : Type 0} → LineReader R → ReaderState
stream_state r = reader_state r.state
