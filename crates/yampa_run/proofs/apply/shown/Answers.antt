use Rattle.std.proofs.Common.{map, rules}
use Rattle.net_tree.specs.LawStep.{step_of}
use Rattle.yampa_run.proofs.Networks.{short_of_memory}
use Rattle.yampa_run.proofs.apply.shown.Goals as goal

pub returns-in_err-job-in-Ok-clause-refused : goal.returns-in_err-job-in-Ok-clause-refused
returns-in_err-job-in-Ok-clause-refused c =
    short_of_memory c.args.source.now (map step_of c.args.steps.now) c.from_residual.result c.in-Ok.ensures.0 (search rules)
