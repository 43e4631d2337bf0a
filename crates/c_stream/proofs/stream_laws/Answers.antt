use Rattle.c_stream.proofs.Writing.{writing_law}
use Rattle.c_stream.proofs.Lists.{reading_law}
use Rattle.c_stream.proofs.Filter.{filter_law, program_filter_law}
use Rattle.c_stream.proofs.stream_laws.Goals as goal

pub returns-clause-writing : goal.returns-clause-writing
returns-clause-writing c = writing_law

pub returns-clause-reading : goal.returns-clause-reading
returns-clause-reading c = reading_law c.reading_laws.ensures.one

pub returns-clause-filter : goal.returns-clause-filter
returns-clause-filter c = filter_law c.reading_laws.ensures.one

pub returns-clause-program : goal.returns-clause-program
returns-clause-program c = program_filter_law c.reading_laws.ensures.one
