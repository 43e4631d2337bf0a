use Rattle.std.proofs.Common.{List, Err, map, subst}
use Rattle.net_tree.specs.LawStep.{step_of}
use Rattle.net_tree.specs.declared.law_step.LawStep.{LawStep}
use Rattle.cert_check.specs.CheckAnswer.{CheckAnswer}
use Rattle.yampa_run.specs.Check.{no_target, no_steps, not_accepted}
use Rattle.yampa_run.proofs.check.derived.Goals as goal

pub returns-in-Err-load-clause-refused : goal.returns-in-Err-load-clause-refused
returns-in-Err-load-clause-refused g c = no_target c.in-Ok.source c.in-Ok.ensures.network c.in-Err-load.ensures.refused

pub returns-in-Err-load_steps-clause-refused : goal.returns-in-Err-load_steps-clause-refused
returns-in-Err-load_steps-clause-refused g c =
    no_steps c.in-Ok.source c.in-Ok-load.target c.in-Ok.ensures.network c.in-Ok-load.ensures.network c.in-Err-load_steps.ensures.refused

pub returns-clause-refused : goal.returns-clause-refused
returns-clause-refused g c =
    not_accepted c.in-Ok.source c.in-Ok-load.target (map step_of c.in-Ok-load_steps.steps.items)
    (record {
      is_source = c.in-Ok.ensures.network;
      is_target = c.in-Ok-load.ensures.network;
      are_steps = c.in-Ok-load_steps.ensures.steps;
    })
    c.in-Err-check.fault
    (subst (λ (steps : List LawStep). CheckAnswer c.in-Ok.source c.in-Ok-load.target (map step_of steps) (Err c.in-Err-check.fault))
    c.deref.ensures.value c.in-Err-check.ensures.answer)
    c.in_ok-check_refusal-in-Err-check.ensures
