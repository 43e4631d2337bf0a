use Rattle.std.proofs.Common.{◌∙◌, List, ap, map}
use Rattle.command_line.specs.CommandLine.{leading_view}
use Rattle.net_tree.specs.LawStep.{step_of}
use Rattle.net_tree.specs.declared.law_step.LawStep.{LawStep}
use Rattle.net_view.specs.Trace.{first_steps}
use Rattle.yampa_run.specs.Apply.{without_source, without_steps}
use Rattle.yampa_run.proofs.Networks.{not_taken}
use Rattle.yampa_run.proofs.apply.applied.Goals as goal

pub returns-in-Err-load-clause-refused : goal.returns-in-Err-load-clause-refused
returns-in-Err-load-clause-refused g c = without_source c.in-Ok.first c.in-Ok.ensures.first c.in-Err-load.ensures.refused

pub returns-in-Err-load_steps-clause-refused : goal.returns-in-Err-load_steps-clause-refused
returns-in-Err-load_steps-clause-refused g c = without_steps c.in-Ok.first c.in-Ok.ensures.first c.in-Ok-load.source c.in-Ok-load.ensures.network c.in-Err-load_steps.ensures.refused

pub returns-clause-refused : goal.returns-clause-refused
returns-clause-refused g c =
    not_taken (g.F.Files.told c.args.files.now) (leading_view c.args.names) c.in-Ok-load.source (map step_of c.first_steps.result.now) c.applied_steps.result
    (record {
      is_source = c.in-Ok-load.ensures.network;
      all = map step_of c.in-Ok-load_steps.steps.items;
      are_steps = c.in-Ok-load_steps.ensures.steps;
      first = c.in-Ok.first;
      is_first = c.in-Ok.ensures.first;
      leading = c.first_steps.ensures ∙ ap (λ (xs : List LawStep). first_steps c.in-Ok.first (map step_of xs)) c.deref.ensures.value;
    })
    c.applied_steps.ensures.refused
