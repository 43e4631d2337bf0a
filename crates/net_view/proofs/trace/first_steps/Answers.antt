use Rattle.std.proofs.Common.{map, take, sym, ap, ◌∙◌}
use Rattle.std.proofs.lemmas.List.{take_min, take-map}
use Rattle.net_tree.specs.LawStep.{step_of}
use Rattle.net_view.specs.Trace.{first_steps}
use Rattle.net_view.proofs.trace.first_steps.Goals as goal

pub returns-in-Some : goal.returns-in-Some
returns-in-Some c =
    ap (λ n. map step_of (take n c.args.steps.now)) c.min.ensures ∙ ap (map step_of) (take_min c.in-Some.count c.args.steps.now)
    ∙ sym (take-map step_of c.in-Some.count c.args.steps.now) ∙ ap (λ o. first_steps o (map step_of c.args.steps.now)) (sym c.in-Some.is)
