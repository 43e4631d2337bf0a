use Rattle.yampa_run.proofs.AppliedFiles.{applied_files}
use Rattle.yampa_run.proofs.file_laws.applied_file_laws.Goals as goal

pub returns : goal.returns
returns c = applied_files c.printing_laws.ensures.networks c.applied_laws.ensures.applied
