use Rattle.std.proofs.Common.{IfOk, None, option_map, sym, ap, ◌∙◌, subst}
use Rattle.net_syntax.specs.ChildParts.{seen_place}
use Rattle.net_tree.specs.LawStep.{part_of, step_of}
use Rattle.net_tree.specs.declared.law_step.Direction.TheVariants.{Forward}
use Rattle.cert_check.specs.StepAnswers.{IsTreeAnswer}
use Rattle.net_view.proofs.Traces.{led_by}
use Rattle.net_view.proofs.trace.led_by.Goals as goal

pub returns : goal.returns
returns c =
    led_by c.args.net.now (step_of c.args.step.now) (seen_place c.in-Some.place) (part_of c.in-Some-given.given) c.answer_at.result
    (sym c.place_in.ensures ∙ ap (option_map seen_place) c.in-Some.is) (ap (option_map part_of) c.in-Some-given.is)
    (subst (λ z. IfOk c.answer_at.result (IsTreeAnswer c.in-Some.place.olds c.args.step.now.law Forward z None)) c.by_ref.ensures c.answer_at.ensures)
