use Rattle.yampa_run.proofs.OptimisedFiles.{optimised_files}
use Rattle.yampa_run.proofs.file_laws.optimised_file_laws.Goals as goal

pub returns : goal.returns
returns c =
    optimised_files c.printing_laws.ensures.networks c.printing_laws.ensures.certificates c.optimised_laws.ensures.derives
    c.optimised_laws.ensures.one
