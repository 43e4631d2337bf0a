use Rattle.yampa_run.proofs.CompiledFiles.{compiled_files}
use Rattle.yampa_run.proofs.file_laws.compiled_file_laws.Goals as goal

pub returns : goal.returns
returns c =
    compiled_files c.file_laws.ensures.file c.file_laws.ensures.guarded c.file_laws.ensures.hands c.typing_laws.ensures.within
    c.derivation_laws.ensures.same_stream c.derivation_laws.ensures.kept_types
